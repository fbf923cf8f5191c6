-- The laws of `same`, by which lists of numbers are compared. Assumes nothing.
use mathlib.Core.Path.{◌≡◌, refl, sym, ◌∙◌}
use mathlib.Core.Bool.{true}
use mathlib.Core.List.{List, [], ◌∷◌}
use Prim.Native.Nat.{ℕ}
use lib.Dec.{eqb}
use Rattle.std.specs.Cmp.Lexicographic.{pointwise}
use Rattle.std.proofs.lemmas.Slice.Eq.{bytes_eq-Decides}
use Rattle.chunk_names.specs.Name.{same}

-- it is what `==` tells of two slices
pub same_pointwise : (a b : List ℕ) → same a b ≡ pointwise eqb a b
unfolding same
same_pointwise [] [] = refl
same_pointwise [] (y ∷ b) = refl
same_pointwise (x ∷ a) [] = refl
same_pointwise (x ∷ a) (y ∷ b) = rw (same_pointwise a b)

pub same_refl : (a : List ℕ) → same a a ≡ true
same_refl a = same_pointwise a a ∙ (bytes_eq-Decides a a).1 refl

pub same_true : (a b : List ℕ) → same a b ≡ true → a ≡ b
same_true a b h = (bytes_eq-Decides a b).0 (sym (same_pointwise a b) ∙ h)
