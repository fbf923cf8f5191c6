-- The table step of the CRC is eight bit steps.
-- Assumes nothing.
use mathlib.Core.Path.{◌≡◌, refl, sym, ap, ap₂, ◌∙◌}
use Prim.Native.Nat.{ℕ, zero, suc, ◌+◌, ◌*◌, ◌/◌, ◌%◌, ◌^◌, ◌≤◌, ◌<◌}
use native.Mathlib.Nat.{mod-lt, add-zero, mul-one, mul_assoc, pow-suc, mul_comm}
use native.Mathlib.Omega.{arith}
use lib.Pow.{split, pow_pos, pow_mono}
use lib.Bits.{bit_xor, xor_shr, xor_mod, xor_lt, xor_block, xor_shifted, xor_zero_r, xor_comm}
use Rattle.checksum.specs.Crc.{poly, bit, bits, byte_of}
use Rattle.checksum.proofs.XorLaws.{xor_swap, xor_scaled}

-- the polynomial, added or not
top : (x y : ℕ) → x < 2 → y < 2 → bit_xor x y * poly ≡ bit_xor (x * poly) (y * poly)
top zero zero hx hy = refl
top zero (suc zero) hx hy = refl
top (suc zero) zero hx hy = refl
top (suc zero) (suc zero) hx hy = refl
top zero (suc (suc y)) hx hy = absurd (omega arith)
top (suc zero) (suc (suc y)) hx hy = absurd (omega arith)
top (suc (suc x)) y hx hy = absurd (omega arith)

half : (a : ℕ) → a < 2 ^ 32 → a / 2 ^ 31 < 2
half a h = omega arith

-- a bit step is linear
pub bit_xor_lem : (a b : ℕ) → a < 2 ^ 32 → b < 2 ^ 32 → bit (bit_xor a b) ≡ bit_xor (bit a) (bit b)
unfolding bit
bit_xor_lem a b ha hb =
    ap₂ bit_xor
    (ap (λ (x : ℕ). x * poly) (xor_shr a b 31) ∙ top (a / 2 ^ 31) (b / 2 ^ 31) (half a ha) (half b hb))
    (ap (λ (x : ℕ). x % 2 ^ 32) (sym (xor_scaled 1 a b)) ∙ xor_mod (a * 2) (b * 2) 32)
    ∙ xor_swap (a / 2 ^ 31 * poly) (b / 2 ^ 31 * poly) (a * 2 % 2 ^ 32) (b * 2 % 2 ^ 32)

pub bit-lt : (a : ℕ) → a < 2 ^ 32 → bit a < 2 ^ 32
unfolding bit
bit-lt a h = let k = half a h in xor_lt 32 (a / 2 ^ 31 * poly) (a * 2 % 2 ^ 32) (omega arith) (mod-lt (a * 2) (pow_pos 32))

pub bits_xor : (n a b : ℕ) → a < 2 ^ 32 → b < 2 ^ 32 → bits n (bit_xor a b) ≡ bit_xor (bits n a) (bits n b)
unfolding bits
bits_xor zero a b ha hb = refl
bits_xor (suc n) a b ha hb = ap (bits n) (bit_xor_lem a b ha hb) ∙ bits_xor n (bit a) (bit b) (bit-lt a ha) (bit-lt b hb)

-- where no one falls out, a bit step doubles
pub bit-small : (x : ℕ) → x < 2 ^ 31 → bit x ≡ x * 2
unfolding bit
bit-small x h =
    let z : x / 2 ^ 31 ≡ 0 = omega arith in
    let w : x * 2 % 2 ^ 32 ≡ x * 2 = omega arith in
    rw (z, w)

bits_small : (n k x : ℕ) → x < 2 ^ k → k + n ≤ 32 → bits n x ≡ x * 2 ^ n
unfolding bits
bits_small zero k x h l = sym (mul-one x)
bits_small (suc n) k x h l =
    let g : 2 ^ k ≤ 2 ^ 31 = pow_mono {j = 31} (omega arith) in
    let d : x * 2 < 2 ^ suc k = rw pow-suc (omega arith) in
    ap (bits n) (bit-small x (omega arith)) ∙ bits_small n (suc k) (x * 2) d (omega arith)
    ∙ mul_assoc x 2 (2 ^ n) ∙ ap (λ (m : ℕ). x * m) (mul_comm 2 (2 ^ n) ∙ sym (pow-suc 2 n))

pub bits-lt : (n a : ℕ) → a < 2 ^ 32 → bits n a < 2 ^ 32
unfolding bits
bits-lt zero a h = h
bits-lt (suc n) a h = bits-lt n (bit a) (bit-lt a h)

top_lt : (r b : ℕ) → r < 2 ^ 32 → b < 2 ^ 8 → bit_xor r (b * 2 ^ 24) < 2 ^ 32
top_lt r b hr hb = xor_lt 32 r (b * 2 ^ 24) hr (omega arith)

pub byte_lt : (r b : ℕ) → r < 2 ^ 32 → b < 2 ^ 8 → byte_of r b < 2 ^ 32
unfolding byte_of
byte_lt r b hr hb = bits-lt 8 (bit_xor r (b * 2 ^ 24)) (top_lt r b hr hb)

-- a byte step is linear
pub byte_xor : (r s b d : ℕ) → r < 2 ^ 32 → s < 2 ^ 32 → b < 2 ^ 8 → d < 2 ^ 8
    → byte_of (bit_xor r s) (bit_xor b d) ≡ bit_xor (byte_of r b) (byte_of s d)
unfolding byte_of
byte_xor r s b d hr hs hb hd =
    ap (bits 8)
    (ap (bit_xor (bit_xor r s)) (sym (xor_scaled 24 b d)) ∙ xor_swap r s (b * 2 ^ 24) (d * 2 ^ 24))
    ∙ bits_xor 8 (bit_xor r (b * 2 ^ 24)) (bit_xor s (d * 2 ^ 24)) (top_lt r b hr hb) (top_lt s d hs hd)

-- the entry is one of 256
pub index-lt : (r b : ℕ) → r < 2 ^ 32 → b < 2 ^ 8 → bit_xor (r / 2 ^ 24) b < 2 ^ 8
index-lt r b hr hb = xor_lt 8 (r / 2 ^ 24) b (omega arith) hb

-- a byte into the register, by the entry of the table
pub byte_step : (r b t : ℕ) → r < 2 ^ 32 → b < 2 ^ 8 → t ≡ bits 8 (bit_xor (r / 2 ^ 24) b * 2 ^ 24)
    → bit_xor (r % 2 ^ 24 * 256) t ≡ byte_of r b
unfolding byte_of
byte_step r b t hr hb e =
    let i = bit_xor (r / 2 ^ 24) b in
    let lo : r % 2 ^ 24 < 2 ^ 24 = mod-lt r (pow_pos 24) in
    let hi : i < 2 ^ 8 = index-lt r b hr hb in
    let parts : bit_xor r (b * 2 ^ 24) ≡ bit_xor (i * 2 ^ 24) (r % 2 ^ 24) =
    ap₂ bit_xor (sym (split r 24)) (sym (add-zero (b * 2 ^ 24)))
    ∙ xor_block 24 (r / 2 ^ 24) b (r % 2 ^ 24) 0 lo (pow_pos 24)
    ∙ ap (λ (x : ℕ). i * 2 ^ 24 + x) (xor_zero_r (r % 2 ^ 24))
    ∙ sym (xor_shifted i 24 (r % 2 ^ 24) lo) in
    sym
    (ap (bits 8) parts
    ∙ bits_xor 8 (i * 2 ^ 24) (r % 2 ^ 24) (omega arith) (omega arith)
    ∙ ap₂ bit_xor (sym e) (bits_small 8 24 (r % 2 ^ 24) lo (omega arith))
    ∙ xor_comm t (r % 2 ^ 24 * 2 ^ 8))
