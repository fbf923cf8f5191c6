-- The number before a length is 65,536 or more where the length is wrong, and so are numbers joined bit by bit where one of them is; and two halves are
-- all of them.
-- Assumes nothing.
use mathlib.Core.Path.{◌≡◌, refl, sym, ap, ap₂, ◌∙◌}
use mathlib.Core.Bool.{Bool, true, false, ◌||◌}
use Prim.Native.Nat.{ℕ, zero, suc, ◌+◌, ◌%◌, ◌^◌, ◌≤◌, ◌<◌}
use native.Mathlib.Nat.{lt_of_lt_of_le, add_comm}
use native.Mathlib.Omega.{arith}
use lib.Dec.{ltb}
use lib.Bits.{bit_or, or_lt, or_comm, or_add_and, and_le_r}
use borrow.Author.Tests.{ltb-true, ltb-false, lt-ltb, le-ltb}
use Rattle.refusal.specs.Below.{any}
use Rattle.refusal.proofs.BelowLaws.{below-cut}
use Rattle.rows.specs.Lengths.{length_wrong}

or_left : (a b : ℕ) → a ≤ bit_or a b
or_left a b = omega (arith, or_add_and a b, and_le_r a b)

pub joined : (a b : ℕ) → ltb 65_535 (bit_or a b) ≡ (ltb 65_535 a || ltb 65_535 b)
joined a b = go (ltb 65_535 a) (ltb 65_535 b) refl refl
  where
    go : (t u : Bool) → ltb 65_535 a ≡ t → ltb 65_535 b ≡ u → ltb 65_535 (bit_or a b) ≡ (t || u)
    go true u p q = lt-ltb 65_535 (bit_or a b) (lt_of_lt_of_le (ltb-true 65_535 a p) (or_left a b))
    go false true p q = lt-ltb 65_535 (bit_or a b) (lt_of_lt_of_le (ltb-true 65_535 b q) (rw or_comm (or_left b a)))
    go false false p q =
        let ha : a < 2 ^ 16 = omega (arith, ltb-false 65_535 a p) in
        let hb : b < 2 ^ 16 = omega (arith, ltb-false 65_535 b q) in
        le-ltb 65_535 (bit_or a b) (omega (arith, or_lt 16 a b ha hb))

pub before-wrong : (x : ℕ) → x < 2 ^ 32 → ltb 65_535 ((x + 4_294_967_295) % 4_294_967_296) ≡ length_wrong x
before-wrong zero h = refl
before-wrong (suc x) h =
    let e : (suc x + 4_294_967_295) % 4_294_967_296 ≡ x = omega arith in ap (ltb 65_535) e ∙ go (ltb 65_535 x) refl
  where
    go : (t : Bool) → ltb 65_535 x ≡ t → ltb 65_535 x ≡ length_wrong (suc x)
    go true p =
        let k = ltb-true 65_535 x p in
        p ∙ sym (ap₂ (λ (a b : Bool). a || b) (le-ltb (suc x) 1 (omega arith)) (lt-ltb 65_536 (suc x) (omega arith)))
    go false p =
        let k = ltb-false 65_535 x p in
        p ∙ sym (ap₂ (λ (a b : Bool). a || b) (le-ltb (suc x) 1 (omega arith)) (le-ltb 65_536 (suc x) (omega arith)))

any-cut : (f : ℕ → Bool) (m n : ℕ) → any f (m + n) ≡ (any f m || any (λ k. f (m + k)) n)
any-cut f = below-cut (λ a b. a || b) false f assoc none
  where
    assoc : (a b c : Bool) → ((a || b) || c) ≡ (a || (b || c))
    assoc true b c = refl
    assoc false b c = refl

    none : (a : Bool) → (a || false) ≡ a
    none true = refl
    none false = refl

-- two halves that meet or overlap
pub halves : (f : ℕ → Bool) (m d : ℕ) → (any f (m + d) || any (λ k. f (m + k)) (m + d)) ≡ any f (m + (m + d))
halves f m d =
    let g : ℕ → Bool = λ k. f (m + k) in
    let rest = any (λ k. g (d + k)) m in
    let second : any g (m + d) ≡ (any g d || rest) = ap (any g) (add_comm m d) ∙ any-cut g d m in
    ap₂ (λ (a b : Bool). a || b) (any-cut f m d) second
    ∙ meet (any f m) (any g d) rest
    ∙ sym (any-cut f m (m + d) ∙ ap (λ (b : Bool). any f m || b) second)
  where
    meet : (a b c : Bool) → ((a || b) || (b || c)) ≡ (a || (b || c))
    meet true b c = refl
    meet false true c = refl
    meet false false c = refl
