-- Words of rows, and what a loop over rows and a chain over rows are given. Assumes nothing.
use mathlib.Core.Path.{◌≡◌, refl, sym, ap, ◌∙◌}
use mathlib.Core.Bool.{Bool, ◌||◌}
use mathlib.Core.List.{List, [], ◌∷◌, ◌++◌, map}
use Prim.Native.Nat.{ℕ, zero, suc, ◌+◌, ◌-◌, ◌*◌, ◌/◌, ◌<◌, ◌≤◌}
use native.Mathlib.Nat.{div-lt_iff_lt-mul, le-div_iff_mul-le, suc-mul, zero-mul}
use native.Mathlib.Numerals.{add-one}
use native.Mathlib.Omega.{arith}
use denote.Ref.{Bor}
use lib.ListN.{length, get_or, take, drop, length-take, length-append, length-drop, get_or-eq_default}
use lib.Seq.{get_or-take, get_or-drop, take-append_seam, drop-append_seam, drop-drop, take_all}
use Rattle.std.specs.Prelude.{Some, None}
use Rattle.std.specs.List.{list_any, range_with_len}
use Rattle.std.specs.Iterator.{AlwaysYields}
use Rattle.std.proofs.lemmas.Iterator.{YieldsList}
use Rattle.std.specs.Slice.Iter.{chunks_exact_rest, chunks_exact_size, chunks_exact_steps}
use Rattle.std.specs.declared.slice.ChunksExact.{ChunksExact}
use Rattle.rows.specs.declared.row.Row.{Row}
use Rattle.rows.specs.declared.row.Row.TheVariants.{Text, Caller, Track, Marker, Comment}
use Rattle.rows.specs.Row.{width, row_at}

-- the rows after the last are not there
pub rows_past : (n w k : ℕ) → 0 < w → n / w < k → n < k * w
rows_past n w k h l = (div-lt_iff_lt-mul h).0 l

-- word j of row k
pub row_word : (words : List ℕ) (w k j : ℕ) → j < w → get_or words (k * w + j) 0 ≡ get_or (row_at w words k) j 0
row_word words w k j h = rw (get_or-take, get_or-drop)

-- no word j of a row of at most j words, nor past the end
pub no_word : (words : List ℕ) (w k j : ℕ) → w ≤ j → 0 ≡ get_or (row_at w words k) j 0
no_word words w k j h = sym (get_or-eq_default {A = ℕ} (row_at w words k) 0 (omega (arith, length-take w (drop (k * w) words))))

pub word_past : (words : List ℕ) (w k j : ℕ) → j < w → length words ≤ k * w + j → 0 ≡ get_or (row_at w words k) j 0
word_past words w k j h past = sym (get_or-eq_default {A = ℕ} words 0 past) ∙ row_word words w k j h

-- A LOOP OVER ROWS, `for row in rows.chunks_exact(w)`: what is left where k rows are given
pub record RowsLeft (w : ℕ) (words : List ℕ) (s : ChunksExact ℕ) (k : ℕ) : Type 0 where
  pub wide : chunks_exact_size s ≡ w
  pub left : chunks_exact_rest s ≡ drop (k * w) words
  pub within : k ≤ length words / w

module _ (w : ℕ) {words : List ℕ} {s : ChunksExact ℕ} where
  -- at first all of them
  pub none_given : chunks_exact_size s ≡ w → chunks_exact_rest s ≡ words → RowsLeft w words s 0
  none_given wide all = record { wide = wide; left = rw zero-mul all; within = omega arith }

  module _ (k : ℕ) (some : 0 < w) (l : RowsLeft w words s k) where
    -- the next one is row k
    pub row_given : (x : Bor (List ℕ)) (t : ChunksExact ℕ) → chunks_exact_steps s (Some x) t → (x.now ≡ row_at w words k) × (k < length words / w) × RowsLeft w words t (k + 1)
    row_given x t step =
        let row = x.now in
        let rest = chunks_exact_rest t in
        let joined : row ++ rest ≡ drop (k * w) words = sym step.1.0 ∙ l.left in
        let long : length row ≡ w = step.1.1 ∙ l.wide in
        let front : take w (row ++ rest) ≡ row = rw (sym long) (take-append_seam row rest) in
        let back : drop w (row ++ rest) ≡ rest = rw (sym long) (drop-append_seam row rest) in
        let next : k * w + w ≡ (k + 1) * w = rw add-one (sym (suc-mul k w)) in
        let sum : length row + length rest ≡ length words - k * w = rw (← length-append, joined, length-drop) refl in
        let more : k + 1 ≤ length words / w = (le-div_iff_mul-le some).1 (rw (← next) (omega (arith, long, sum))) in (
          sym front ∙ ap (take w) joined,
          omega (arith, more),
          record { wide = step.0 ∙ l.wide; left = sym back ∙ ap (drop w) joined ∙ drop-drop w (k * w) words ∙ ap (λ n. drop n words) next; within = more },
        )

    -- where there is no next, k rows are all
    pub all_given : (t : ChunksExact ℕ) → chunks_exact_steps s None t → k ≡ length words / w
    all_given t step =
        let few : length words - k * w < w = rw (← length-drop, ← l.left, ← l.wide) step.1.0 in
        let end : length words / w < k + 1 = (div-lt_iff_lt-mul some).1 (rw (add-one, suc-mul) (omega (arith, few))) in
        omega (arith, end, l.within)

-- such a row is its own row 0
pub row_alone : (w : ℕ) (words : List ℕ) {row : List ℕ} (k : ℕ) → row ≡ row_at w words k → row_at w row 0 ≡ row_at w words k
row_alone w words k is = rw (is, zero-mul) (take_all w (row_at w words k) (omega (arith, length-take w (drop (k * w) words))))

-- every row has a word
pub some_width : (kind : Row) → 0 < width kind
some_width Text = omega arith
some_width Caller = omega arith
some_width Track = omega arith
some_width Marker = omega arith
some_width Comment = omega arith

-- A CHAIN OVER ROWS, `rows.chunks_exact(w).any(..)`: the rows come one after another, each as its own row 0
module _ (w : ℕ) (words : List ℕ) (some : 0 < w) where
  rows-from : (n k : ℕ) (s : ChunksExact ℕ) → RowsLeft w words s k → k + n ≡ length words / w
      → AlwaysYields chunks_exact_steps (λ x. row_at w x.now 0) s (map (row_at w words) (range_with_len k n))
  rows-from zero k s l all = λ x j step. absurd (omega (arith, all, (row_given w k some l x j step).1))
  rows-from (suc n) k s l all = (
    λ j step. absurd (omega (arith, all, all_given w k some l j step)),
    λ x j step. let next = row_given w k some l x j step in (row_alone w words k next.0, rows-from n (k + 1) j next.2 (omega (arith, all))),
  )

  pub rows_come : {s : ChunksExact ℕ} → chunks_exact_size s ≡ w → chunks_exact_rest s ≡ words
      → YieldsList chunks_exact_steps (λ x. row_at w x.now 0) s (map (row_at w words) (range_with_len 0 (length words / w)))
  rows_come {s} wide all = record { runs = rows-from (length words / w) 0 s (none_given w wide all) (omega arith) }

-- a test of what a list is taken to
pub any-map : {A B : Type 0} (p : B → Bool) (f : A → B) (xs : List A) → list_any p (map f xs) ≡ list_any (λ x. p (f x)) xs
any-map p f [] = refl
any-map p f (x ∷ xs) = ap (λ (b : Bool). p (f x) || b) (any-map p f xs)
