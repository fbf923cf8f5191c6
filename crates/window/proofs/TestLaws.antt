-- Tests that say the same. Assumes nothing.
use mathlib.Core.Path.{◌≡◌, refl, sym}
use mathlib.Core.Logic.{◌⊎◌, inl, inr, ⊎_elim}
use mathlib.Core.Bool.{Bool, true, false, ◌&&◌, ◌||◌, true≢false}
use Prim.Native.Nat.{ℕ, ◌+◌, ◌*◌, ◌-◌, ◌/◌, ◌%◌, ◌^◌, ◌<◌, min, zero, suc, ◌≤◌}
use native.Mathlib.Nat.{div-add-mod, mul-mod_right, mul-div_right}
use native.Mathlib.Omega.{arith}
use lib.Dec.{eqb}
use borrow.Author.Tests.{eqb-true, eq-eqb}

-- the parts of a conjunction that holds
pub and_left : (a b : Bool) → (a && b) ≡ true → a ≡ true
and_left true b h = refl
and_left false b h = h

pub and_right : (a b : Bool) → (a && b) ≡ true → b ≡ true
and_right true b h = h
and_right false b h = cc

-- tests that imply each other
pub test_same : (a b : Bool) → (a ≡ true → b ≡ true) → (b ≡ true → a ≡ true) → a ≡ b
test_same true b h k = sym (h refl)
test_same false true h k = k refl
test_same false false h k = refl

pub eqb-turned : (a b : ℕ) → eqb a b ≡ eqb b a
eqb-turned a b = test_same (eqb a b) (eqb b a) (λ t. eq-eqb b a (sym (eqb-true a b t))) (λ t. eq-eqb a b (sym (eqb-true b a t)))

-- n pieces of w bytes each, by division
pub times : (bytes w n : ℕ) → 0 < w → (eqb (bytes % w) 0 && eqb (bytes / w) n) ≡ eqb (w * n) bytes
times bytes w n h = test_same (eqb (bytes % w) 0 && eqb (bytes / w) n) (eqb (w * n) bytes) to from where
  to : (eqb (bytes % w) 0 && eqb (bytes / w) n) ≡ true → eqb (w * n) bytes ≡ true
  to t =
      let p = eqb-true (bytes % w) 0 (and_left (eqb (bytes % w) 0) (eqb (bytes / w) n) t) in
      let q = eqb-true (bytes / w) n (and_right (eqb (bytes % w) 0) (eqb (bytes / w) n) t) in
      let d : w * n + 0 ≡ bytes = rw (p, q) at (div-add-mod bytes w) in
      eq-eqb (w * n) bytes (omega arith)

  from : eqb (w * n) bytes ≡ true → (eqb (bytes % w) 0 && eqb (bytes / w) n) ≡ true
  from t = rw (← eqb-true (w * n) bytes t, eq-eqb (w * n % w) 0 (mul-mod_right w n), eq-eqb (w * n / w) n (mul-div_right n h))

-- a sum that stopped at the largest u64 is no slice's length
pub stopped : (s f : ℕ) → f < 2 ^ 64 - 1 → eqb (min s (2 ^ 64 - 1)) f ≡ eqb s f
stopped s f h =
    test_same (eqb (min s (2 ^ 64 - 1)) f) (eqb s f)
    (λ t. let e = eqb-true (min s (2 ^ 64 - 1)) f t in eq-eqb s f (omega arith))
    (λ t. let e = eqb-true s f t in eq-eqb (min s (2 ^ 64 - 1)) f (omega arith))

-- the parts of a disjunction
pub either : (a b : Bool) → a || b ≡ true → (a ≡ true) ⊎ (b ≡ true)
either true b h = inl refl
either false b h = inr h

pub neither : (a b : Bool) → a || b ≡ false → (a ≡ false) × (b ≡ false)
neither true b h = absurd (true≢false h)
neither false b h = (refl, h)

pub lt-or-le : (a b : ℕ) → (a < b) ⊎ (b ≤ a)
lt-or-le a zero = inr (omega arith)
lt-or-le zero (suc b) = inl (omega arith)
lt-or-le (suc a) (suc b) = ⊎_elim (λ p. inl (omega arith)) (λ q. inr (omega arith)) (lt-or-le a b)
