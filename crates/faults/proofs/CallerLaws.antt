-- Names, byte by byte. Assumes nothing.
use mathlib.Core.Path.{◌≡◌, refl, ap}
use mathlib.Core.Bool.{Bool, ◌&&◌, ◌||◌, and-true, or-false}
use mathlib.Core.List.{List, [], ◌∷◌}
use Prim.Native.Nat.{ℕ}
use lib.ListN.{drop}
use Rattle.std.specs.List.{list_all, list_any, zip}
use Rattle.texts.specs.Text.{printable}
use Rattle.faults.specs.Caller.{all_text, space_then_more, spaced}

pub all-text : (s : List ℕ) → list_all printable s ≡ all_text s
all-text [] = refl
all-text (x ∷ []) = and-true (printable x)
all-text (x ∷ (y ∷ s)) = ap (λ (b : Bool). printable x && b) (all-text (y ∷ s))

pub all-pairs : (s : List ℕ) → list_any (λ p. space_then_more p.0 p.1) (zip s (drop 1 s)) ≡ spaced s
all-pairs [] = refl
all-pairs (x ∷ []) = refl
all-pairs (x ∷ (y ∷ [])) = or-false (space_then_more x y)
all-pairs (x ∷ (y ∷ (z ∷ s))) = ap (λ (b : Bool). space_then_more x y || b) (all-pairs (y ∷ (z ∷ s)))
