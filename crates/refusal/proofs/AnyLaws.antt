-- Whether one of f 0, f 1, .. below n is so, as chains of iterators say it. Assumes nothing.
use mathlib.Core.Path.{◌≡◌, refl, sym, ap, ap₂, ◌∙◌}
use mathlib.Core.Bool.{Bool, true, false, ◌||◌}
use mathlib.Core.List.{List, [], ◌∷◌}
use Prim.Native.Nat.{ℕ, zero, suc, ◌+◌}
use native.Mathlib.Omega.{arith}
use lib.ListN.{length, get_or}
use Rattle.std.specs.List.{list_any, range_with_len}
use Rattle.refusal.specs.Below.{below, any}

-- whether one is so, by the first of them
pub any-front : (f : ℕ → Bool) (n : ℕ) → any f (suc n) ≡ (f 0 || any (λ k. f (suc k)) n)
unfolding below
any-front f zero = or-false (f 0)
  where
    or-false : (a : Bool) → a ≡ (a || false)
    or-false true = refl
    or-false false = refl
any-front f (suc n) = ap (λ (a : Bool). a || f (suc n)) (any-front f n) ∙ assoc (f 0) (any (λ k. f (suc k)) n) (f (suc n))
  where
    assoc : (a b c : Bool) → ((a || b) || c) ≡ (a || (b || c))
    assoc true b c = refl
    assoc false b c = refl

any-same : (f g : ℕ → Bool) (n : ℕ) → ((k : ℕ) → f k ≡ g k) → any f n ≡ any g n
unfolding below
any-same f g zero e = refl
any-same f g (suc n) e = ap₂ (λ (a b : Bool). a || b) (any-same f g n e) (e n)

-- of a slice's elements
pub any-list : {A : Type 0} (p : A → Bool) (d : A) (xs : List A) → list_any p xs ≡ any (λ k. p (get_or xs k d)) (length xs)
unfolding below
any-list p d [] = refl
any-list p d (x ∷ xs) = ap (λ (b : Bool). p x || b) (any-list p d xs) ∙ sym (any-front (λ k. p (get_or (x ∷ xs) k d)) (length xs))

any-from : (f : ℕ → Bool) (a n : ℕ) → list_any f (range_with_len a n) ≡ any (λ k. f (a + k)) n
unfolding below
any-from f a zero = refl
any-from f a (suc n) =
    ap₂ (λ (b c : Bool). b || c) (ap f (omega arith))
    (any-from f (a + 1) n ∙ any-same (λ k. f (a + 1 + k)) (λ k. f (a + suc k)) n (λ k. ap f (omega arith)))
    ∙ sym (any-front (λ k. f (a + k)) n)

-- of the numbers below n
pub any-range : (f : ℕ → Bool) (n : ℕ) → list_any f (range_with_len 0 n) ≡ any f n
any-range f n = any-from f 0 n ∙ any-same (λ k. f (0 + k)) f n (λ k. ap f (omega arith))
