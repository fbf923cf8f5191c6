-- The laws of DIIN. Assumes nothing.
use mathlib.Core.Path.{◌≡◌, refl, sym}
use mathlib.Core.Bool.{Bool, true, false, not, ◌&&◌, ◌||◌, and-false, true≢false}
use Prim.Native.Nat.{ℕ, ◌-◌, ◌^◌, ◌<◌}
use native.Mathlib.Decide.{dec_lt}
use native.Mathlib.Omega.{arith}
use borrow.Author.Tests.{eq-eqb, ne_eqb, lt-ltb, le-ltb, ltb-true}
use lib.Dec.{eqb, ltb}
use Rattle.chunk.specs.Append.{moved}

-- Whether DIIN is written can be told from its measured size, which stops at the largest number.
pub told-by-size : (on empty : Bool) (n : ℕ)
    → (on && ((empty || not (eqb (moved 0 n) 0)) && not (eqb (moved 0 n) (2 ^ 64 - 1)))) ≡ (on && ((empty || not (eqb n 0)) && ltb n (2 ^ 64 - 1)))
told-by-size on empty n = go (dec_lt n (2 ^ 64 - 1))
  where
    go : Dec (n < 2 ^ 64 - 1)
        → (on && ((empty || not (eqb (moved 0 n) 0)) && not (eqb (moved 0 n) (2 ^ 64 - 1)))) ≡ (on && ((empty || not (eqb n 0)) && ltb n (2 ^ 64 - 1)))
    go (yes small) =
        let same : moved 0 n ≡ n = omega arith in
        rw (same, ne_eqb n (2 ^ 64 - 1) (λ e. omega (arith, e, small)), lt-ltb n (2 ^ 64 - 1) small)
    go (no large) =
        let most : moved 0 n ≡ 2 ^ 64 - 1 = omega arith in
        rw (most, eq-eqb (2 ^ 64 - 1) (2 ^ 64 - 1) refl, le-ltb n (2 ^ 64 - 1) (omega arith)) (simp and-false)

-- and such a size is below it
pub size_below : (on filled : Bool) (n most : ℕ) → (on && (filled && ltb n most)) ≡ true → n < most
size_below true true n most h = ltb-true n most h
size_below true false n most h = absurd (true≢false (sym h))
size_below false filled n most h = absurd (true≢false (sym h))
