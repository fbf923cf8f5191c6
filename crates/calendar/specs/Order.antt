-- The order of stamps: by year, then month, day, hour and minutes. Assumes nothing.
use Rattle.std.specs.Prelude.{◌≡◌, Bool, true, false, ◌&&◌, ◌||◌, List, [], ◌∷◌, ℕ, eqb, ltb}
use Rattle.calendar.specs.declared.date.Stamp.{Stamp}

-- of two rows of numbers: the smaller at the first place where they differ
unfoldable pub lower : List ℕ → List ℕ → Bool
lower [] ys = false
lower (x ∷ xs) [] = false
lower (x ∷ xs) (y ∷ ys) = ltb x y || (eqb x y && lower xs ys)

-- a stamp's numbers, the largest unit first
abbrev pub units_of : Stamp → List ℕ
units_of s = s.year ∷ s.month ∷ s.day ∷ s.hour ∷ s.minutes ∷ []

abbrev pub earlier : Stamp → Stamp → Bool
earlier a b = lower (units_of a) (units_of b)

-- THE STATEMENT: a strict order, and a total one. It holds of all stamps, those of dates among them
pub record StrictAndTotal : Type 0 where
  pub not_itself : (a : Stamp) → earlier a a ≡ false
  pub not-both : (a b : Stamp) → earlier a b ≡ true → earlier b a ≡ false
  pub onward : (a b c : Stamp) → earlier a b ≡ true → earlier b c ≡ true → earlier a c ≡ true
  pub total : (a b : Stamp) → earlier a b ≡ false → earlier b a ≡ false → a ≡ b
