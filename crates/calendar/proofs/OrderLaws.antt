-- The order of stamps is strict and total (`StrictAndTotal`, specs/Order.antt): so is the order of rows of numbers, and stamps of the same numbers are the same. Assumes nothing.
use mathlib.Core.Path.{◌≡◌, refl, sym, ap, ◌∙◌}
use mathlib.Core.Bool.{Bool, true, false, true≢false}
use mathlib.Core.List.{List, [], ◌∷◌}
use Prim.Native.Nat.{ℕ, ◌<◌}
use native.Mathlib.Decide.{dec_lt}
use native.Mathlib.Omega.{arith}
use lib.ListN.{length, get_or}
use borrow.Author.Tests.{lt-ltb, le-ltb, eq-eqb, ne_eqb}
use Rattle.calendar.specs.declared.date.Stamp.{Stamp}
use Rattle.calendar.specs.Order.{lower, units_of, earlier, StrictAndTotal}

-- two numbers
data Compared (x y : ℕ) : Type 0 where
  smaller : x < y → Compared x y
  larger : y < x → Compared x y
  equal : x ≡ y → Compared x y

compared : (x y : ℕ) → Compared x y
compared x y = go (dec_lt x y) (dec_lt y x)
  where
    go : Dec (x < y) → Dec (y < x) → Compared x y
    go (yes l) d = smaller l
    go (no l) (yes g) = larger g
    go (no l) (no g) = equal (omega arith)

-- two rows, by their first numbers
module _ (x y : ℕ) (xs ys : List ℕ) where
  by-smaller : x < y → lower (x ∷ xs) (y ∷ ys) ≡ true
  unfolding lower
  by-smaller l = rw (lt-ltb x y l)

  by-larger : y < x → lower (x ∷ xs) (y ∷ ys) ≡ false
  unfolding lower
  by-larger l = rw (le-ltb x y (omega arith), ne_eqb x y (λ e. absurd (omega arith)))

  by_equal : x ≡ y → lower (x ∷ xs) (y ∷ ys) ≡ lower xs ys
  unfolding lower
  by_equal e = rw (le-ltb x y (omega arith), eq-eqb x y e)

pub not-true : {A : Type 0} {b : Bool} → b ≡ false → b ≡ true → A
not-true f t = absurd (true≢false (sym t ∙ f))

lower_self : (xs : List ℕ) → lower xs xs ≡ false
unfolding lower
lower_self [] = refl
lower_self (x ∷ xs) = by_equal x x xs xs refl ∙ lower_self xs

lower-onward : (xs ys zs : List ℕ) → lower xs ys ≡ true → lower ys zs ≡ true → lower xs zs ≡ true
unfolding lower
lower-onward [] ys zs p q = absurd (true≢false (sym p))
lower-onward (x ∷ xs) [] zs p q = absurd (true≢false (sym p))
lower-onward (x ∷ xs) (y ∷ ys) [] p q = absurd (true≢false (sym q))
lower-onward (x ∷ xs) (y ∷ ys) (z ∷ zs) p q = go (lower-onward xs ys zs) (compared x y) (compared y z)
  where
    go : (lower xs ys ≡ true → lower ys zs ≡ true → lower xs zs ≡ true) → Compared x y → Compared y z → lower (x ∷ xs) (z ∷ zs) ≡ true
    go rest (larger g) d = not-true (by-larger x y xs ys g) p
    go rest (smaller l) (larger g) = not-true (by-larger y z ys zs g) q
    go rest (equal e) (larger g) = not-true (by-larger y z ys zs g) q
    go rest (smaller l) (smaller m) = by-smaller x z xs zs (omega arith)
    go rest (smaller l) (equal f) = by-smaller x z xs zs (omega arith)
    go rest (equal e) (smaller m) = by-smaller x z xs zs (omega arith)
    go rest (equal e) (equal f) = by_equal x z xs zs (e ∙ f) ∙ rest (sym (by_equal x y xs ys e) ∙ p) (sym (by_equal y z ys zs f) ∙ q)

lower-total : (xs ys : List ℕ) → length xs ≡ length ys → lower xs ys ≡ false → lower ys xs ≡ false → xs ≡ ys
unfolding lower
lower-total [] [] h p q = refl
lower-total [] (y ∷ ys) h p q = absurd (omega arith)
lower-total (x ∷ xs) [] h p q = absurd (omega arith)
lower-total (x ∷ xs) (y ∷ ys) h p q = go (lower-total xs ys (omega arith)) (compared x y)
  where
    go : (lower xs ys ≡ false → lower ys xs ≡ false → xs ≡ ys) → Compared x y → (x ∷ xs) ≡ (y ∷ ys)
    go rest (smaller l) = not-true p (by-smaller x y xs ys l)
    go rest (larger g) = not-true q (by-smaller y x ys xs g)
    go rest (equal e) = let same = rest (sym (by_equal x y xs ys e) ∙ p) (sym (by_equal y x ys xs (sym e)) ∙ q) in rw (e, same)

-- a stamp is told by its numbers
abbrev made : List ℕ → Stamp
made units = record { year = get_or units 0 0; month = get_or units 1 0; day = get_or units 2 0; hour = get_or units 3 0; minutes = get_or units 4 0 }

same_units : (a b : Stamp) → units_of a ≡ units_of b → a ≡ b
same_units a b e = ap made e

onward : (a b c : Stamp) → earlier a b ≡ true → earlier b c ≡ true → earlier a c ≡ true
onward a b c p q = lower-onward (units_of a) (units_of b) (units_of c) p q

not-both : (a b : Stamp) → earlier a b ≡ true → earlier b a ≡ false
not-both a b p = go (earlier b a) refl
  where
    go : (t : Bool) → earlier b a ≡ t → t ≡ false
    go true q = not-true (lower_self (units_of a)) (onward a b a p q)
    go false q = refl

pub strict_and-total : StrictAndTotal
strict_and-total = record {
  not_itself = λ a. lower_self (units_of a);
  not-both = not-both;
  onward = onward;
  total = λ a b p q. same_units a b (lower-total (units_of a) (units_of b) refl p q);
}
