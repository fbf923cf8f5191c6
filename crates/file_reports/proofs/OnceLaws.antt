-- Of an order that names something once, what only that makes is made once. Assumes nothing.
use mathlib.Core.Path.{◌≡◌, refl, ◌∙◌}
use mathlib.Core.Bool.{Bool, true, false, cond}
use mathlib.Core.List.{List, [], ◌∷◌, ◌++◌, map, flat_map, append-nil}
use Prim.Native.Nat.{ℕ, zero, suc, ◌+◌, ◌<◌}
use native.Mathlib.Omega.{arith}
use lib.Dec.{eqb}
use lib.ListN.{length, get_or}
use Rattle.refusal.specs.Orders.{times}
use Rattle.refusal.proofs.OrderLaws.{times-cons, times_none}

-- a list so many times
unfoldable repeated : {B : Type 0} → List B → ℕ → List B
repeated made zero = []
repeated made (suc n) = made ++ repeated made n

module _ {A B : Type 0} (g : A → List B) where
  -- where nothing makes anything
  pub none-at : (d : A) (xs : List A) → ((i : ℕ) → i < length xs → g (get_or xs i d) ≡ []) → flat_map g xs ≡ []
  unfolding flat_map
  none-at d [] h = refl
  none-at d (a ∷ xs) h = rw (h 0 (omega arith), none-at d xs (λ i l. h (suc i) (omega arith)))

  pub none : ((a : A) → g a ≡ []) → (xs : List A) → flat_map g xs ≡ []
  unfolding flat_map
  none h [] = refl
  none h (a ∷ xs) = none-at a (a ∷ xs) (λ i l. h (get_or (a ∷ xs) i a))

  -- where only the names of one rank make something
  module _ (rank : A → ℕ) (r : ℕ) (made : List B) (only : (a : A) → g a ≡ cond (eqb (rank a) r) made []) where
    as_often : (xs : List A) → flat_map g xs ≡ repeated made (times (map rank xs) r)
    unfolding flat_map repeated
    as_often [] = rw (times_none r)
    as_often (a ∷ xs) = go (eqb (rank a) r) (only a) (times-cons (rank a) (map rank xs) r) (as_often xs)
      where
        go : (b : Bool) → g a ≡ cond b made [] → times (map rank (a ∷ xs)) r ≡ cond b 1 0 + times (map rank xs) r
            → flat_map g xs ≡ repeated made (times (map rank xs) r) → g a ++ flat_map g xs ≡ repeated made (times (map rank (a ∷ xs)) r)
        go true m t e = let more : times (map rank (a ∷ xs)) r ≡ suc (times (map rank xs) r) = omega arith in rw (m, e, more)
        go false m t e = let less : times (map rank (a ∷ xs)) r ≡ times (map rank xs) r = omega arith in rw (m, e, less)

    pub once : (xs : List A) → times (map rank xs) r ≡ 1 → flat_map g xs ≡ made
    unfolding repeated
    once xs e = as_often xs ∙ rw e (append-nil made)
