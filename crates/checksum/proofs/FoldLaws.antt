-- A unit may be left out of a content if it is added to the units 1, 28 and 32 after it, whatever power of 2 its number of bits is.
-- 1. 32 bit steps of a register are its 31 steps, its 4 steps and itself, added: the polynomial (`once`).
-- 2. The law for w bits, applied twice, is that for 2 w bits, since what is added twice is nothing (`twice`); so it holds for each power of 2 (`folds`).
-- 3. A unit, and the same unit at these three places, leave nothing (`none`); so it may be left out (`leave_out`). Assumes nothing.
use mathlib.Core.Path.{◌≡◌, refl, sym, ap, ap₂, ◌∙◌, subst}
use Prim.Native.Nat.{ℕ, zero, suc, ◌+◌, ◌*◌, ◌/◌, ◌%◌, ◌^◌, ◌≤◌, ◌<◌}
use native.Mathlib.Nat.{mod-lt, le_refl, add-zero, add-suc, add_comm, add-mul, mul-add, mul-suc, suc-mul, one-mul, zero-mul, pow-suc}
use native.Mathlib.Omega.{arith}
use lib.Dec.{lit<}
use lib.Pow.{split, pow_pos, pow_mono}
use lib.Bits.{bit_xor, xor_shr, xor_mod, xor_shifted, xor_zero_l, xor_zero_r, xor_self, xor_lt}
use Rattle.checksum.specs.Crc.{bit, bits, byte_of}
use Rattle.checksum.specs.Steps.{feed, after_units}
use Rattle.checksum.proofs.XorLaws.{xor_assoc, xor_swap, xor_again, xor_meet}
use Rattle.checksum.proofs.CrcLaws.{bit_xor_lem, bit-lt, bit-small, bits_xor, bits-lt, byte_lt, byte_xor}

-- ---- steps of bits

bits-bits : (m n r : ℕ) → bits n (bits m r) ≡ bits (n + m) r
unfolding bits
bits-bits zero n r = ap (λ (x : ℕ). bits x r) (sym (add-zero n))
bits-bits (suc m) n r = bits-bits m n (bit r) ∙ ap (λ (x : ℕ). bits x r) (sym (add-suc n m))

bits-bit : (n r : ℕ) → bits n (bit r) ≡ bit (bits n r)
unfolding bits
bits-bit zero r = refl
bits-bit (suc n) r = bits-bit n (bit r)

-- steps in either order
bits_swap : (m n r : ℕ) → bits m (bits n r) ≡ bits n (bits m r)
bits_swap m n r = bits-bits n m r ∙ ap (λ (x : ℕ). bits x r) (add_comm m n) ∙ sym (bits-bits m n r)

-- steps of units of w bits
steps : (w s t r : ℕ) → bits (s * w) (bits (t * w) r) ≡ bits ((s + t) * w) r
steps w s t r = bits-bits (t * w) (s * w) r ∙ ap (λ (x : ℕ). bits x r) (sym (add-mul s t w))

-- ---- the polynomial and its squares

-- 32 w bit steps do what 31 w, 4 w and no steps do, added
abbrev pub Folds : ℕ → ℕ → Type 0
Folds w r = bits (32 * w) r ≡ bit_xor (bits (31 * w) r) (bit_xor (bits (4 * w) r) r)

-- of one bit it is the polynomial: at the registers 0 and 1 by computation
digit : (r : ℕ) → r < 2 → Folds 1 r
unfolding bits bit
digit zero h = refl
digit (suc zero) h = refl
digit (suc (suc r)) h = absurd (omega arith)

-- .. a bit on
moved_on : (r : ℕ) → r < 2 ^ 32 → Folds 1 r → Folds 1 (bit r)
moved_on r h f =
    let a = bits 31 r in
    let b = bits 4 r in
    let la = bits-lt 31 r h in
    let lb = bits-lt 4 r h in
    bits-bit 32 r ∙ ap bit f ∙ bit_xor_lem a (bit_xor b r) la (xor_lt 32 b r lb h) ∙ ap (bit_xor (bit a)) (bit_xor_lem b r lb h)
    ∙ sym (ap₂ bit_xor (bits-bit 31 r) (ap (λ (x : ℕ). bit_xor x (bit r)) (bits-bit 4 r)))

-- .. added
added : (r s : ℕ) → r < 2 ^ 32 → s < 2 ^ 32 → Folds 1 r → Folds 1 s → Folds 1 (bit_xor r s)
added r s hr hs f g =
    let a = bits 31 r in
    let b = bits 4 r in
    let c = bits 31 s in
    let d = bits 4 s in
    bits_xor 32 r s hr hs ∙ ap₂ bit_xor f g ∙ xor_swap a (bit_xor b r) c (bit_xor d s) ∙ ap (bit_xor (bit_xor a c)) (xor_swap b r d s)
    ∙ sym (ap₂ bit_xor (bits_xor 31 r s hr hs) (ap (λ (x : ℕ). bit_xor x (bit_xor r s)) (bits_xor 4 r s hr hs)))

-- .. so at each register, bit by bit
below : (k r : ℕ) → k ≤ 32 → r < 2 ^ k → Folds 1 r
below zero r l h = digit r (omega arith)
below (suc k) r l h =
    let g : 2 ^ k ≤ 2 ^ 31 = pow_mono {j = 31} (omega arith) in
    let t : r < 2 ^ k * 2 = rw pow-suc at h in
    let x : r / 2 < 2 ^ k = omega arith in
    let y : r % 2 < 2 = mod-lt r (lit< tt) in
    let u : r / 2 < 2 ^ 32 = omega arith in
    subst (Folds 1)
    (ap (λ (z : ℕ). bit_xor z (r % 2)) (bit-small (r / 2) (omega arith)) ∙ xor_shifted (r / 2) 1 (r % 2) y ∙ split r 1)
    (added (bit (r / 2)) (r % 2) (bit-lt (r / 2) u) (omega arith) (moved_on (r / 2) u (below k (r / 2) (omega arith) x)) (digit (r % 2) y))

once : (r : ℕ) → r < 2 ^ 32 → Folds 1 r
once r h = below 32 r (le_refl 32) h

-- (X + Y + 1) (X + Y + 1) = X X + Y Y + 1: the other products come twice
twice : (w : ℕ) → ((r : ℕ) → r < 2 ^ 32 → Folds w r) → (r : ℕ) → r < 2 ^ 32 → Folds (w + w) r
twice w f r h =
    let X : ℕ → ℕ = λ s. bits (31 * w) s in
    let Y : ℕ → ℕ = λ s. bits (4 * w) s in
    let lX : X r < 2 ^ 32 = bits-lt (31 * w) r h in
    let lY : Y r < 2 ^ 32 = bits-lt (4 * w) r h in
    let lYr : bit_xor (Y r) r < 2 ^ 32 = xor_lt 32 (Y r) r lY h in
    let s = bit_xor (X r) (bit_xor (Y r) r) in
    let ls : s < 2 ^ 32 = xor_lt 32 (X r) (bit_xor (Y r) r) lX lYr in
    let spread : (n : ℕ) → bits n s ≡ bit_xor (bits n (X r)) (bit_xor (bits n (Y r)) (bits n r)) =
    λ n. bits_xor n (X r) (bit_xor (Y r) r) lX lYr ∙ ap (bit_xor (bits n (X r))) (bits_xor n (Y r) r lY h) in
    let double : (t : ℕ) → bits (t * (w + w)) r ≡ bits (t * w) (bits (t * w) r) =
    λ t. ap (λ (x : ℕ). bits x r) (mul-add t w w) ∙ sym (bits-bits (t * w) (t * w) r) in
    double 32
    ∙ ap (bits (32 * w)) (f r h)
    ∙ f s ls
    ∙ ap₂ bit_xor (spread (31 * w))
    (ap₂ bit_xor (spread (4 * w) ∙ ap (λ (x : ℕ). bit_xor x (bit_xor (Y (Y r)) (Y r))) (bits_swap (4 * w) (31 * w) r)) refl)
    ∙ products (X (X r)) (X (Y r)) (X r) (Y (Y r)) (Y r) r
    ∙ sym (ap₂ (λ (a b : ℕ). bit_xor a (bit_xor b r)) (double 31) (double 4))
  where
    products : (a b c d e r : ℕ)
        → bit_xor (bit_xor a (bit_xor b c)) (bit_xor (bit_xor b (bit_xor d e)) (bit_xor c (bit_xor e r))) ≡ bit_xor a (bit_xor d r)
    products a b c d e r =
        ap (bit_xor (bit_xor a (bit_xor b c))) (xor_swap b (bit_xor d e) c (bit_xor e r) ∙ ap (bit_xor (bit_xor b c)) (xor_meet d e r))
        ∙ xor_meet a (bit_xor b c) (bit_xor d r)

-- the law for 2 ^ k bits
pub folds : (k r : ℕ) → r < 2 ^ 32 → Folds (2 ^ k) r
folds zero = once
folds (suc k) = subst (λ (w : ℕ). (r : ℕ) → r < 2 ^ 32 → Folds w r) (omega (arith, pow-suc 2 k)) (twice (2 ^ k) (folds k))

-- ---- units of n bytes

feed-lt : (n r w : ℕ) → r < 2 ^ 32 → feed n r w < 2 ^ 32
unfolding feed
feed-lt zero r w h = h
feed-lt (suc n) r w h = feed-lt n (byte_of r (w % 256)) (w / 256) (byte_lt r (w % 256) h (mod-lt w (lit< tt)))

feed_xor : (n r s v w : ℕ) → r < 2 ^ 32 → s < 2 ^ 32 → feed n (bit_xor r s) (bit_xor v w) ≡ bit_xor (feed n r v) (feed n s w)
unfolding feed
feed_xor zero r s v w hr hs = refl
feed_xor (suc n) r s v w hr hs =
    let hv = mod-lt v (lit< tt) in
    let hw = mod-lt w (lit< tt) in
    ap₂ (feed n) (ap (byte_of (bit_xor r s)) (xor_mod v w 8) ∙ byte_xor r s (v % 256) (w % 256) hr hs hv hw) (xor_shr v w 8)
    ∙ feed_xor n (byte_of r (v % 256)) (byte_of s (w % 256)) (v / 256) (w / 256) (byte_lt r (v % 256) hr hv) (byte_lt s (w % 256) hs hw)

byte_none : (r : ℕ) → byte_of r 0 ≡ bits 8 r
unfolding byte_of
byte_none r = ap (bits 8) (xor_zero_r r)

feed-none : (n r : ℕ) → feed n r 0 ≡ bits (8 * n) r
unfolding feed bits
feed-none zero r = refl
feed-none (suc n) r =
    ap (λ (x : ℕ). feed n x 0) (byte_none r) ∙ feed-none n (bits 8 r) ∙ bits-bits 8 (8 * n) r ∙ ap (λ (x : ℕ). bits x r) (sym (mul-suc 8 n))

after-lt : (n k r : ℕ) (f : ℕ → ℕ) → r < 2 ^ 32 → after_units n r f k < 2 ^ 32
unfolding after_units
after-lt n zero r f h = h
after-lt n (suc k) r f h = feed-lt n (after_units n r f k) (f k) (after-lt n k r f h)

pub after_ext : (n k r : ℕ) (f g : ℕ → ℕ) → ((j : ℕ) → j < k → f j ≡ g j) → after_units n r f k ≡ after_units n r g k
unfolding after_units
after_ext n zero r f g e = refl
after_ext n (suc k) r f g e = ap₂ (feed n) (after_ext n k r f g (λ j l. e j (omega arith))) (e k (omega arith))

after_xor : (n k r s : ℕ) (f d h : ℕ → ℕ) → r < 2 ^ 32 → s < 2 ^ 32 → ((j : ℕ) → j < k → h j ≡ bit_xor (f j) (d j))
    → after_units n (bit_xor r s) h k ≡ bit_xor (after_units n r f k) (after_units n s d k)
unfolding after_units
after_xor n zero r s f d h hr hs e = refl
after_xor n (suc k) r s f d h hr hs e =
    ap₂ (feed n) (after_xor n k r s f d h hr hs (λ j l. e j (omega arith))) (e k (omega arith))
    ∙ feed_xor n (after_units n r f k) (after_units n s d k) (f k) (d k) (after-lt n k r f hr) (after-lt n k s d hs)

-- the first unit by itself
after-head : (n k r : ℕ) (f : ℕ → ℕ) → after_units n r f (suc k) ≡ after_units n (feed n r (f 0)) (λ j. f (suc j)) k
unfolding after_units
after-head n zero r f = refl
after-head n (suc k) r f = ap (λ (x : ℕ). feed n x (f (suc k))) (after-head n k r f)

-- t units of 0
pub after_none : (n t k r : ℕ) (d : ℕ → ℕ) → ((j : ℕ) → k ≤ j → j < k + t → d j ≡ 0)
    → after_units n r d (k + t) ≡ bits (t * (8 * n)) (after_units n r d k)
unfolding after_units bits
after_none n zero k r d e = ap (after_units n r d) (add-zero k) ∙ ap (λ (x : ℕ). bits x (after_units n r d k)) (sym (zero-mul (8 * n)))
after_none n (suc t) k r d e =
    ap (after_units n r d) (add-suc k t)
    ∙ ap₂ (feed n) (after_none n t k r d (λ j l m. e j l (omega arith))) (e (k + t) (omega arith) (omega arith))
    ∙ feed-none n (bits (t * (8 * n)) (after_units n r d k))
    ∙ bits-bits (t * (8 * n)) (8 * n) (after_units n r d k)
    ∙ ap (λ (x : ℕ). bits x (after_units n r d k)) (add_comm (8 * n) (t * (8 * n)) ∙ sym (suc-mul t (8 * n)))

-- ---- a unit is left out

module _ (n : ℕ) (fold : (r : ℕ) → r < 2 ^ 32 → Folds (8 * n) r) where
  abbrev w : ℕ
  w = 8 * n

  -- the register and the unit, each by itself
  parts : (r u : ℕ) → r < 2 ^ 32 → feed n r u ≡ bit_xor (bits (1 * w) r) (feed n 0 u)
  parts r u h =
      ap₂ (feed n) (sym (xor_zero_r r)) (sym (xor_zero_l u)) ∙ feed_xor n r 0 0 u h (pow_pos 32)
      ∙ ap (λ (x : ℕ). bit_xor x (feed n 0 u)) (feed-none n r ∙ ap (λ (x : ℕ). bits x r) (sym (one-mul w)))

  -- a unit q, and q again 1, 28 and 32 units later, are nothing
  none : (q : ℕ) (d : ℕ → ℕ) → d 0 ≡ q → d 27 ≡ q → d 31 ≡ q
      → ((j : ℕ) → j < 32 → (j ≡ 0 → ⊥) → (j ≡ 27 → ⊥) → (j ≡ 31 → ⊥) → d j ≡ 0) → after_units n (feed n 0 q) d 32 ≡ 0
  unfolding after_units
  none q d e₀ e₂₇ e₃₁ e =
      let r = feed n 0 q in
      let h : r < 2 ^ 32 = feed-lt n 0 q (pow_pos 32) in
      let a = bits (31 * w) r in
      let b = bits (4 * w) r in
      let z = bit_xor (bits (1 * w) r) r in
      let hz : z < 2 ^ 32 = xor_lt 32 (bits (1 * w) r) r (bits-lt (1 * w) r h) h in
      let one : after_units n r d 1 ≡ z = ap (feed n r) e₀ ∙ parts r q h in
      let run : after_units n r d 27 ≡ bits (26 * w) z =
      after_none n 26 1 r d (λ j l m. e j (omega arith) (λ x. omega arith) (λ x. omega arith) (λ x. omega arith)) ∙ ap (bits (26 * w)) one in
      let y = bit_xor (bits (27 * w) z) r in
      let hy : y < 2 ^ 32 = xor_lt 32 (bits (27 * w) z) r (bits-lt (27 * w) z hz) h in
      let two : after_units n r d 28 ≡ y =
      ap₂ (feed n) run e₂₇ ∙ parts (bits (26 * w) z) q (bits-lt (26 * w) z hz) ∙ ap (λ (x : ℕ). bit_xor x r) (steps w 1 26 z) in
      let rest : after_units n r d 31 ≡ bits (3 * w) y =
      after_none n 3 28 r d (λ j l m. e j (omega arith) (λ x. omega arith) (λ x. omega arith) (λ x. omega arith)) ∙ ap (bits (3 * w)) two in
      ap₂ (feed n) rest e₃₁
      ∙ parts (bits (3 * w) y) q (bits-lt (3 * w) y hy)
      ∙ ap (λ (x : ℕ). bit_xor x r)
      (steps w 1 3 y ∙ bits_xor (4 * w) (bits (27 * w) z) r (bits-lt (27 * w) z hz) h
      ∙ ap (λ (x : ℕ). bit_xor x b)
      (steps w 4 27 z ∙ bits_xor (31 * w) (bits (1 * w) r) r (bits-lt (1 * w) r h) h ∙ ap (λ (x : ℕ). bit_xor x a) (steps w 31 1 r ∙ fold r h)))
      ∙ xor_assoc (bit_xor (bit_xor a (bit_xor b r)) a) b r
      ∙ xor_assoc (bit_xor a (bit_xor b r)) a (bit_xor b r)
      ∙ xor_self (bit_xor a (bit_xor b r))

  -- 32 units f, and m after them, have the register of 32 units g: e, which is the last 31 of f and m, with the first of f added to three
  pub leave_out : (m : ℕ) (f e g : ℕ → ℕ) → ((j : ℕ) → j < 31 → e j ≡ f (suc j)) → e 31 ≡ m
      → g 0 ≡ bit_xor (e 0) (f 0) → g 27 ≡ bit_xor (e 27) (f 0) → g 31 ≡ bit_xor (e 31) (f 0)
      → ((j : ℕ) → j < 32 → (j ≡ 0 → ⊥) → (j ≡ 27 → ⊥) → (j ≡ 31 → ⊥) → g j ≡ e j) → after_units n 0 g 32 ≡ feed n (after_units n 0 f 32) m
  unfolding after_units
  leave_out m f e g he hm g₀ g₂₇ g₃₁ hg =
      let r = feed n 0 (f 0) in
      let h : r < 2 ^ 32 = feed-lt n 0 (f 0) (pow_pos 32) in
      let d : ℕ → ℕ = λ j. bit_xor (e j) (g j) in
      let at : (j : ℕ) → g j ≡ bit_xor (e j) (f 0) → d j ≡ f 0 = λ j x. ap (bit_xor (e j)) x ∙ xor_again (e j) (f 0) in
      let lost : after_units n r d 32 ≡ 0 =
      none (f 0) d (at 0 g₀) (at 27 g₂₇) (at 31 g₃₁) (λ j l x y z. ap (bit_xor (e j)) (hg j l x y z) ∙ xor_self (e j)) in
      ap (λ (x : ℕ). after_units n x g 32) (sym (xor_self r))
      ∙ after_xor n 32 r r e d g h h (λ j l. sym (xor_again (e j) (g j)))
      ∙ ap (bit_xor (after_units n r e 32)) lost
      ∙ xor_zero_r (after_units n r e 32)
      ∙ ap₂ (feed n) (after_ext n 31 r e (λ j. f (suc j)) he ∙ sym (after-head n 31 0 f)) hm
