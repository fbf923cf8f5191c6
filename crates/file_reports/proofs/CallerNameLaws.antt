-- An accepted build's caller chunks have none of the writer's own names, so a reader takes none for a container, and all their data as the value. Assumes nothing.
use mathlib.Core.Path.{◌≡◌, refl, ◌∙◌}
use mathlib.Core.Bool.{false}
use mathlib.Core.List.{List, [], ◌∷◌, map-id}
use mathlib.Core.Option.{none}
use Prim.Native.Nat.{ℕ, zero, suc, ◌/◌, ◌<◌}
use native.Mathlib.Omega.{arith}
use lib.ListN.{length, get_or}
use Rattle.chunk.specs.Number.{be}
use Rattle.chunk_names.specs.Name.{Name, ascii, same, among, reserved_names, reserved}
use Rattle.chunk.specs.Rows.{rows}
use Rattle.tree.specs.Value.{inner, value}
use Rattle.markers.proofs.AllLaws.{All, rows_all}
use Rattle.track_markers.proofs.ProgramLaws.{eqb_comm}
use Rattle.std.specs.Prelude.{Ok}
use Rattle.refusal.proofs.VerdictLaws.{neither}
use Rattle.build_options.specs.Inputs.{Inputs}
use Rattle.checks.specs.InputVerdict.{verdict}
use Rattle.checks.proofs.AcceptedLaws.{callers-named}

same_comm : (a b : Name) → same a b ≡ same b a
unfolding same
same_comm [] [] = refl
same_comm [] (y ∷ b) = refl
same_comm (x ∷ a) [] = refl
same_comm (x ∷ a) (y ∷ b) = rw (eqb_comm x y, same_comm a b)

-- a name that is not in a list is none of its names
pub none-among : (name : Name) (ns : List Name) → among name ns ≡ false → (k : ℕ) → k < length ns → same name (get_or ns k []) ≡ false
unfolding among
none-among name [] e k h = absurd (omega arith)
none-among name (n ∷ ns) e zero h = same_comm name n ∙ (neither (same n name) (among name ns) e).0
none-among name (n ∷ ns) e (suc k) h = none-among name ns (neither (same n name) (among name ns) e).1 k (omega arith)

-- a name that is free for a caller
module _ (name : Name) (free : reserved name ≡ false) where
  other : (k : ℕ) → k < 9 → same name (get_or reserved_names k []) ≡ false
  unfolding reserved_names
  other = none-among name reserved_names free

  pub free_inner : inner (ascii "FRM8") name ≡ none
  unfolding inner same reserved_names
  free_inner = rw (other 2 (omega arith), other 4 (omega arith), other 7 (omega arith))

  pub free_value : (content : List ℕ) → value (ascii "FRM8") name content ≡ content
  unfolding value same reserved_names
  free_value content = rw (other 6 (omega arith))

-- the name of a row of three words
abbrev pub Free : List ℕ → Type 0
Free row = reserved (be 4 (get_or row 0 0)) ≡ false

pub callers_free : (x : Inputs) → verdict x ≡ Ok tt → All Free (rows 3 x.callers)
unfolding rows
callers_free x ok = rw map-id at (rows_all Free (λ row. row) 3 (length x.callers / 3) x.callers (callers-named x ok))
