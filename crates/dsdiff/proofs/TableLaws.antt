-- The table that markers are taken apart into: where it has a row for each marker, it begins with their rows; where it has not, the build is refused (1).
-- Assumes nothing.
use mathlib.Core.Path.{◌≡◌, refl, sym, ◌∙◌, ap, subst}
use mathlib.Core.Bool.{Bool, true, false, ◌||◌}
use mathlib.Core.List.{List, [], ◌∷◌, ◌++◌, append_assoc, flat_map}
use Prim.Native.Nat.{ℕ, suc, ◌+◌, ◌*◌, ◌/◌, ◌<◌, ◌≤◌}
use native.Mathlib.Omega.{arith}
use native.Mathlib.Nat.{zero-add}
use native.Mathlib.Numerals.{unary_clauses}
use borrow.Author.Tests.{lt-ltb}
use lib.Dec.{lit≤}
use lib.ListN.{length, take, drop, replicate, length-append, length-replicate, take-append-drop}
use lib.Seq.{sets, sets-eq, drop-drop, paste, length-paste, take-paste, drop-paste, take_at}
use Rattle.std.specs.Prelude.{Err}
use Rattle.refusal.specs.declared.verdict.Refusal.TheVariants.{TooLarge}
use Rattle.row_extents.specs.Extents.{too_large}
use Rattle.rows.specs.declared.row.Row.TheVariants as row
use Rattle.markers.specs.declared.marker.MarkerKind.TheVariants.{Index}
use Rattle.build_options.specs.declared.options.Options.{Options}
use Rattle.rules.specs.Limits.{any_too_large, limit_faults, most_markers, longest_text}
use Rattle.build_options.specs.Inputs.{Inputs}
use Rattle.checks.specs.InputVerdict.{given_faults, verdict}
use Rattle.build_answer.specs.Answer.{Answer}
use Rattle.dsdiff.specs.declared.marker.Marker.{Marker}
use Rattle.assemble.specs.Build.{Builds}
use Rattle.dsdiff.specs.Marker.{row_of, rows_of, looked_at}
use Rattle.dsdiff.specs.Table.{with_row, stored, filled}

-- what `get_or` says of a list of markers past its end
abbrev pub no_marker : Marker
no_marker = record { frame = 0; kind = Index; flags = 0; text = record { start = 0; length = 0 } }

with_row_sets : (t : List ℕ) (at : ℕ) (m : Marker) → with_row t at (row_of m) ≡ sets t at (row_of m)
with_row_sets t at m = simp unary_clauses

-- where the table has a row i, that row is m's, and all else is as it was
stored_row : (t : List ℕ) (i : ℕ) (m : Marker) → i < 65_535 → i * 4 + 4 ≤ length t → stored t i m ≡ paste t (i * 4) (row_of m) 4
stored_row t i m in_table h = rw (lt-ltb i 65_535 in_table) (with_row_sets t (i * 4) m ∙ sets-eq (row_of m) t (i * 4) h)

-- the rows before i, the markers' rows, and what stands behind them
filled_all : (ms : List Marker) (t : List ℕ) (i : ℕ) → i + length ms ≤ 65_535 → (i + length ms) * 4 ≤ length t
    → filled t i ms ≡ take (i * 4) t ++ (rows_of ms ++ drop ((i + length ms) * 4) t)
unfolding filled rows_of flat_map
filled_all [] t i few h = simp (unary_clauses) (sym (take-append-drop (i * 4) t))
filled_all (m ∷ ms) t i few h =
    let room : i * 4 + 4 ≤ length t = omega arith in
    let t₁ : List ℕ = paste t (i * 4) (row_of m) 4 in
    let same : length t₁ ≡ length t = length-paste t (i * 4) (row_of m) 4 room (lit≤ tt) in
    let front : take ((i + 1) * 4) t₁ ≡ take (i * 4) t ++ row_of m = ap (λ (k : ℕ). take k t₁) (next i) ∙ take-paste t (i * 4) (row_of m) 4 (omega arith) (lit≤ tt) in
    let back : drop ((i + 1 + length ms) * 4) t₁ ≡ drop ((i + length (m ∷ ms)) * 4) t =
    ap (λ (k : ℕ). drop k t₁) (behind i (length ms)) ∙ sym (drop-drop (length ms * 4) (i * 4 + 4) t₁) ∙ ap (drop (length ms * 4)) (drop-paste t (i * 4) (row_of m) 4 (omega arith) (lit≤ tt))
    ∙ drop-drop (length ms * 4) (i * 4 + 4) t ∙ ap (λ (k : ℕ). drop k t) (ahead i (length ms)) in
    ap (λ (u : List ℕ). filled u (i + 1) ms) (stored_row t i m (omega arith) room) ∙ filled_all ms t₁ (i + 1) (omega arith) (omega (arith, same))
    ∙ rw (front, back) (append_assoc (take (i * 4) t) (row_of m) (rows_of ms ++ drop ((i + length (m ∷ ms)) * 4) t))
  where
    next : (i : ℕ) → (i + 1) * 4 ≡ i * 4 + 4
    next i = omega arith

    behind : (i n : ℕ) → (i + 1 + n) * 4 ≡ i * 4 + 4 + n * 4
    behind i n = omega arith

    ahead : (i n : ℕ) → i * 4 + 4 + n * 4 ≡ (i + suc n) * 4
    ahead i n = omega arith

-- a row has four words
pub length-rows : (ms : List Marker) → length (rows_of ms) ≡ length ms * 4
unfolding rows_of flat_map
length-rows [] = refl
length-rows (m ∷ ms) = rw (length-append (row_of m) (rows_of ms)) (omega (arith, length-rows ms))

-- a table that has room for all markers begins with their rows
pub begins_with : (ms : List Marker) (t : List ℕ) → length ms ≤ 65_535 → length ms * 4 ≤ length t → take (length ms * 4) (filled t 0 ms) ≡ rows_of ms
begins_with ms t few room =
    ap (take (length ms * 4)) (filled_all ms t 0 (omega arith) (omega arith) ∙ ap (λ (k : ℕ). rows_of ms ++ drop (k * 4) t) (zero-add (length ms)))
    ∙ take_at (rows_of ms) (drop (length ms * 4) t) (length ms * 4) (length-rows ms)

-- what a build looks at, of a table that was empty before: the markers' rows, if they are wanted
pub looked : (size : ℕ) (table : List ℕ) (n rows : ℕ) (ms : List Marker) (wanted : Bool) → 262_140 ≤ size → table ≡ filled (replicate size 0) 0 ms → n ≡ length ms → wanted ≡ true → n ≤ 65_535 → rows ≡ n * 4
    → take rows table ≡ looked_at wanted ms
looked size table n rows ms wanted room is count w few all =
    rw (w, all, is, count) (begins_with ms (replicate size 0) (omega (arith, count, few)) (rw (length-replicate {A = ℕ} size 0) (omega (arith, room, count, few))))

pub looked-none : (table : List ℕ) (rows : ℕ) (ms : List Marker) (wanted : Bool) → wanted ≡ false → rows ≡ 0 → take rows table ≡ looked_at wanted ms
looked-none table rows ms wanted w e = rw (w, e)

-- a build by equal rows
pub by_rows : (x : List ℕ → Inputs) {u w : List ℕ} {h h' t t' : List ℕ} {r : Answer} → u ≡ w → Builds (x u) h h' t t' r → Builds (x w) h h' t t' r
by_rows x {h = h} {h' = h'} {t = t} {t' = t'} {r = r} e b = subst (λ (m : List ℕ). Builds (x m) h h' t t' r) e b

-- ---- more markers than the table has rows
or-true : (a : Bool) → (a || true) ≡ true
or-true true = refl
or-true false = refl

too_many : (ms : List Marker) → 65_535 < length ms → too_large row.Marker (rows_of ms) most_markers longest_text ≡ true
unfolding too_large
too_many ms many = let more : most_markers < length (rows_of ms) / 4 = omega (arith, length-rows ms) in rw (lt-ltb _ _ more)

module _ (o : Options) (wanted : o.custom_markers ≡ true) (ms : List Marker) (many : 65_535 < length ms) where
  too_large_lem : (tracks comments callers : List ℕ) → any_too_large o tracks (rows_of ms) comments callers ≡ true
  unfolding any_too_large
  too_large_lem tracks comments callers = rw (wanted, too_many ms many) (simp or-true)

  limit_refused : (pool raw tracks comments callers : List ℕ) → limit_faults o pool raw tracks (rows_of ms) comments callers ≡ Err TooLarge
  unfolding limit_faults
  limit_refused pool raw tracks comments callers = rw (too_large_lem tracks comments callers)

  given-refused : (pool raw tracks comments callers : List ℕ) → given_faults o pool raw tracks (rows_of ms) comments callers ≡ Err TooLarge
  unfolding given_faults
  given-refused pool raw tracks comments callers = rw (limit_refused pool raw tracks comments callers)

pub many-refused : (x : Inputs) (ms : List Marker) → x.options.custom_markers ≡ true → x.markers ≡ rows_of ms → 65_535 < length ms → verdict x ≡ Err TooLarge
unfolding verdict
many-refused x ms wanted are many = rw (are, given-refused x.options wanted ms many x.pool x.raw x.tracks x.comments x.callers)
