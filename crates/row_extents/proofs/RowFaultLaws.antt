-- What holds of rows that are not refused as 1 or 2: they are whole and not too many, and their extents fit. Assumes nothing.
use mathlib.Core.Path.{◌≡◌, refl}
use mathlib.Core.Bool.{Bool, true, false, not, true≢false}
use mathlib.Core.List.{List}
use Prim.Native.Nat.{ℕ, ◌+◌, ◌%◌, ◌≤◌, ◌<◌}
use lib.Dec.{eqb, ltb}
use lib.ListN.{length}
use borrow.Author.Tests.{ltb-false, eqb-true}
use Rattle.rows.specs.Row.{width, count_of_rows, cut_short, extent_at}
use Rattle.row_extents.specs.Extents.{is_long, is_outside, too_large, outside_pool}
use Rattle.rows.specs.declared.row.Row.{Row}
use Rattle.refusal.proofs.VerdictLaws.{neither, none_so}

pub record RowsFit (kind : Row) (words : List ℕ) (most longest pool : ℕ) : Type 0 where
  pub few : count_of_rows kind words ≤ most
  pub whole : length words % width kind ≡ 0
  pub short : (k : ℕ) → k < count_of_rows kind words → (extent_at kind words k).length ≤ longest
  pub inside : (k : ℕ) → k < count_of_rows kind words → (extent_at kind words k).start + (extent_at kind words k).length ≤ pool

pub not-not : {a b : ℕ} → not (eqb a b) ≡ false → a ≡ b
not-not {a} {b} e = eqb-true a b (go (eqb a b) e)
  where
    go : (t : Bool) → not t ≡ false → t ≡ true
    go true e = refl
    go false e = absurd (true≢false e)

pub rows_fit : (kind : Row) (words : List ℕ) (most longest pool : ℕ) → too_large kind words most longest ≡ false → outside_pool kind words pool ≡ false
    → RowsFit kind words most longest pool
unfolding too_large outside_pool
rows_fit kind words most longest pool large outside =
    let n = count_of_rows kind words in
    let l = neither (ltb most n) _ large in
    let o = neither (cut_short kind words) _ outside in
    record {
      few = ltb-false most n l.0;
      whole = not-not o.0;
      short = λ k h. ltb-false longest (extent_at kind words k).length (none_so (λ k. is_long longest (extent_at kind words k)) n l.1 k h);
      inside = λ k h. ltb-false pool _ (none_so (λ k. is_outside pool (extent_at kind words k)) n o.1 k h);
    }
