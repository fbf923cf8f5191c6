-- Words of 8 bytes, a unit cut, and the ring after a unit more.
-- Assumes nothing.
use mathlib.Core.Path.{◌≡◌, refl, sym, ap, ap₂, ◌∙◌, subst}
use mathlib.Core.List.{List, [], ◌∷◌, ◌++◌, append-nil, append_assoc}
use mathlib.Core.Logic.{◌≢◌}
use Prim.Native.Nat.{ℕ, zero, suc, ◌+◌, ◌*◌, ◌/◌, ◌%◌, ◌^◌, ◌<◌}
use native.Mathlib.Nat.{add-zero, add_comm, suc-add, zero-add, zero-mul, suc-mul, mul_comm, mul-suc, div-one, mod-lt, pow-suc}
use native.Mathlib.Numerals.{add-one}
use native.Mathlib.Omega.{arith}
use lib.Arith.{digits_div, digits_mod}
use lib.Dec.{lit<}
use lib.Pow.{pow-add, field, mod-mod-pow, shr-shr}
use Rattle.std.specs.Int.{from_le_bytes, w64}
use Rattle.std.specs.List.{concat}
use Rattle.std.specs.Simd.{first_chunks}
use Rattle.std.proofs.lemmas.List.Folds.{concat-append}
use lib.ListN.{length, take, drop, drop_of_length-le, take-append-drop, get_or, set, replicate, length-set, get_or-replicate}
use lib.Seq.{drop-cons, take-suc, drop-drop, get_or-set_same, get_or-set_other}
use lib.Bits.{bit_xor}
use Rattle.checksum.specs.Crc.{bit, bits, byte_of, bytes_of, crc_of}
use Rattle.checksum.specs.Steps.{feed, after_units, units_from, ring_of, Next, Pushed}
use Rattle.checksum.proofs.FoldLaws.{Folds, folds, leave_out, after_ext, after_none}

-- ---- bytes

-- a byte of the list
pub step : (s : List ℕ) (i r : ℕ) → i < length s → bytes_of (byte_of r (get_or s i 0)) (drop (i + 1) s) ≡ bytes_of r (drop i s)
unfolding bytes_of
step s i r h = rw (add-one, drop-cons s i 0)

bytes-append : (r : ℕ) (a b : List ℕ) → bytes_of r (a ++ b) ≡ bytes_of (bytes_of r a) b
unfolding bytes_of
bytes-append r [] b = refl
bytes-append r (x ∷ a) b = bytes-append (byte_of r x) a b

-- bytes as a number, the first lowest
abbrev pub low : List ℕ → ℕ
low [] = 0
low (b ∷ bs) = low bs * 256 + b

pub low_fed : (bs : List ℕ) (r : ℕ) → ((k : ℕ) → get_or bs k 0 < 256) → feed (length bs) r (low bs) ≡ bytes_of r bs
unfolding feed bytes_of
low_fed [] r h = refl
low_fed (b ∷ bs) r h =
    ap₂ (feed (length bs)) (ap (byte_of r) (digits_mod (low bs) {m = 256} (h 0))) (digits_div (low bs) {m = 256} (h 0))
    ∙ low_fed bs (byte_of r b) (λ k. h (suc k))

low_eight : (bs : List ℕ) → length bs ≡ 8 → from_le_bytes w64 bs ≡ low bs
low_eight bs l =
    let e : (i : ℕ) → i < length bs → low (drop i bs) ≡ low (drop (suc i) bs) * 256 + get_or bs i 0 = λ i h. rw (drop-cons bs i 0) in
    let z : low (drop 8 bs) ≡ 0 = rw (drop_of_length-le bs {i = 8} (omega arith)) in
    omega (arith, e 0 (omega arith), e 1 (omega arith), e 2 (omega arith), e 3 (omega arith), e 4 (omega arith), e 5 (omega arith), e 6 (omega arith), e 7 (omega arith), z)

-- the 8 bytes of a word
pub word_next : (bs : List ℕ) → length bs ≡ 8 → ((k : ℕ) → get_or bs k 0 < 256) → Next bs 0 (from_le_bytes w64 bs)
unfolding bytes_of
word_next bs eight bytes r =
    rw (drop_of_length-le bs {i = 8} (omega arith), low_eight bs eight, ← eight) (sym (low_fed bs r bytes))

-- a word more
pub word_more : (words : List (List ℕ)) (i r w : ℕ) → i < length words → length (get_or words i []) ≡ 8 → Next (get_or words i []) 0 w
    → r ≡ crc_of (concat (take i words)) → feed 8 r w ≡ crc_of (concat (take (i + 1) words))
unfolding crc_of bytes_of
word_more words i r w h eight next e =
    let word = get_or words i [] in
    let joined : concat (take i words) ++ word ≡ concat (take (i + 1) words) = rw (add-one, take-suc words i [], concat-append, append-nil) in
    let fed : bytes_of r word ≡ feed 8 r w = rw (drop_of_length-le word {i = 8} (omega arith)) at (next r) in
    sym fed
    ∙ ap (λ (x : ℕ). bytes_of x word) e
    ∙ sym (bytes-append 0 (concat (take i words)) word)
    ∙ ap (bytes_of 0) joined

-- the words of a content, and the bytes behind them
pub words_joined : (n k : ℕ) (s : List ℕ) → concat (first_chunks n k s) ++ drop (k * n) s ≡ s
words_joined n zero s = rw zero-mul
words_joined n (suc k) s =
    rw (suc-mul, add_comm (k * n) n, ← drop-drop, append_assoc, words_joined n k (drop n s)) (take-append-drop n s)

pub words_first : (s : List ℕ) (r : ℕ) (words rest : List ℕ) → r ≡ crc_of words → words ++ rest ≡ s → bytes_of r rest ≡ crc_of s
unfolding crc_of
words_first s r words rest e j = ap (λ (x : ℕ). bytes_of x rest) e ∙ sym (bytes-append 0 words rest) ∙ ap (bytes_of 0) j

-- a unit of m + n bytes, cut
pub feed-cut : (m n r u : ℕ) → feed (m + n) r u ≡ feed n (feed m r (u % 2 ^ (8 * m))) (u / 2 ^ (8 * m))
unfolding feed
feed-cut zero n r u = ap₂ (λ (k v : ℕ). feed k r v) (zero-add n) (sym (div-one u))
feed-cut (suc m) n r u =
    let e : 8 * suc m ≡ 8 * m + 8 = mul-suc 8 m in
    let f : 8 * suc m ≡ 8 + 8 * m = e ∙ add_comm (8 * m) 8 in
    ap (λ (k : ℕ). feed k r u) (suc-add m n)
    ∙ feed-cut m n (byte_of r (u % 256)) (u / 256)
    ∙ ap₂ (feed n)
    (ap₂ (feed m)
    (ap (byte_of r) (sym (ap (λ (k : ℕ). u % 2 ^ k % 256) e ∙ mod-mod-pow u (8 * m) 8)))
    (sym (ap (λ (k : ℕ). u % 2 ^ k / 256) e ∙ field u (8 * m) 8)))
    (shr-shr u 8 (8 * m) ∙ ap (λ (k : ℕ). u / 2 ^ k) (sym f))

-- a unit that is a byte
pub feed_byte : (r u : ℕ) → feed 1 r u ≡ byte_of r (u % 256)
unfolding feed
feed_byte r u = refl

-- ---- the ring

-- 2 ^ k bytes, in bits
pow_eight : (k : ℕ) → 2 ^ (k + 3) ≡ 8 * 2 ^ k
pow_eight k = pow-add 2 k 3 ∙ mul_comm (2 ^ k) 8

pub after_next : (n r : ℕ) (f : ℕ → ℕ) (j : ℕ) → feed n (after_units n r f j) (f j) ≡ after_units n r f (j + 1)
unfolding after_units
after_next n r f j = rw add-one

bits-zero : (n : ℕ) → bits n 0 ≡ 0
unfolding bits bit
bits-zero zero = refl
bits-zero (suc n) = bits-zero n

-- a ring of 32 units of 0
pub ring_start : (n : ℕ) → ring_of n (replicate 32 0) 0 ≡ 0
unfolding ring_of after_units
ring_start n =
    after_none n 32 0 0 (units_from (replicate 32 0) 0) (λ j _ _. get_or-replicate 32 ((0 + j) % 32) 0 0 (mod-lt (0 + j) (lit< tt))) ∙ bits-zero (32 * (8 * n))

-- 64 units on: the same place
pub ring_round : (n : ℕ) (a : List ℕ) → ring_of n a 64 ≡ ring_of n a 0
unfolding ring_of
ring_round n a =
    after_ext n 32 0 (units_from a 64) (units_from a 0)
    (λ j l. let e : (64 + j) % 32 ≡ (0 + j) % 32 = omega arith in ap (λ (k : ℕ). get_or a k 0) e)

-- two halves more are a unit more
pub halves-next : (k half u r s t : ℕ) → half ≡ 2 ^ (8 * 2 ^ k) → s ≡ feed (2 ^ k) r (u % half) → t ≡ feed (2 ^ k) s (u / half)
    → t ≡ feed (2 ^ suc k) r u
halves-next k half u r s t e p q =
    let d : 2 ^ suc k ≡ 2 ^ k + 2 ^ k = omega (arith, pow-suc 2 k) in
    q
    ∙ ap₂ (λ (x h : ℕ). feed (2 ^ k) x (u / h)) (p ∙ ap (λ (h : ℕ). feed (2 ^ k) r (u % h)) e) e
    ∙ sym (ap (λ (n : ℕ). feed n r u) d ∙ feed-cut (2 ^ k) (2 ^ k) r u)

-- A UNIT m MORE. The places o, p and s: of the first unit, and of those 1 and 28 after it; a₁ to a₃: the ring after each store; e: m in the place of the first
-- unit, and nothing added
module _ (a : List ℕ) (i m : ℕ) (size : length a ≡ 32) where
  abbrev o : ℕ
  o = i % 32

  abbrev p : ℕ
  p = (i + 1) % 32

  abbrev s : ℕ
  s = (i + 28) % 32

  abbrev q : ℕ
  q = get_or a o 0

  abbrev a₁ : List ℕ
  a₁ = set a p (bit_xor (get_or a p 0) q)

  abbrev a₂ : List ℕ
  a₂ = set a₁ s (bit_xor (get_or a₁ s 0) q)

  abbrev a₃ : List ℕ
  a₃ = set a₂ o (bit_xor m q)

  e : List ℕ
  e = set a o m

  o<32 : o < 32
  o<32 = mod-lt i (lit< tt)

  p<32 : p < 32
  p<32 = mod-lt (i + 1) (lit< tt)

  s<32 : s < 32
  s<32 = mod-lt (i + 28) (lit< tt)

  p≢o : p ≢ o
  p≢o z = omega arith

  s≢o : s ≢ o
  s≢o z = omega arith

  s≢p : s ≢ p
  s≢p z = omega arith

  p≢s : p ≢ s
  p≢s z = omega arith

  at_p : get_or a₃ p 0 ≡ bit_xor (get_or a p 0) q
  at_p =
      get_or-set_other a₂ o p (bit_xor m q) 0 p≢o ∙ get_or-set_other a₁ s p (bit_xor (get_or a₁ s 0) q) 0 p≢s
      ∙ get_or-set_same a p (bit_xor (get_or a p 0) q) 0 (omega (arith, p<32))

  at-s : get_or a₃ s 0 ≡ bit_xor (get_or a s 0) q
  at-s =
      get_or-set_other a₂ o s (bit_xor m q) 0 s≢o
      ∙ get_or-set_same a₁ s (bit_xor (get_or a₁ s 0) q) 0 (simp length-set (omega (arith, s<32)))
      ∙ ap (λ (x : ℕ). bit_xor x q) (get_or-set_other a p s (bit_xor (get_or a p 0) q) 0 s≢p)

  at-o : get_or a₃ o 0 ≡ bit_xor m q
  at-o = get_or-set_same a₂ o (bit_xor m q) 0 (simp length-set (omega (arith, o<32)))

  at_other : (x : ℕ) → x ≢ p → x ≢ s → x ≢ o → get_or a₃ x 0 ≡ get_or a x 0
  at_other x hp hs ho =
      get_or-set_other a₂ o x (bit_xor m q) 0 ho ∙ get_or-set_other a₁ s x (bit_xor (get_or a₁ s 0) q) 0 hs
      ∙ get_or-set_other a p x (bit_xor (get_or a p 0) q) 0 hp

  kept : (x : ℕ) → x ≢ o → get_or e x 0 ≡ get_or a x 0
  unfolding e
  kept x h = get_or-set_other a o x m 0 h

  kept-o : get_or e o 0 ≡ m
  unfolding e
  kept-o = get_or-set_same a o m 0 (omega (arith, o<32))

  -- at the place j of the ring, which is x of the list
  added : (j x : ℕ) → (i + 1 + j) % 32 ≡ x → get_or a₃ x 0 ≡ bit_xor (get_or e x 0) q
      → units_from a₃ (i + 1) j ≡ bit_xor (units_from e (i + 1) j) (units_from a i 0)
  added j x h t =
      ap (λ (y : ℕ). get_or a₃ y 0) h ∙ t
      ∙ sym (ap₂ bit_xor (ap (λ (y : ℕ). get_or e y 0) h) (ap (λ (y : ℕ). get_or a (y % 32) 0) (add-zero i)))

  pub ring_step : Pushed a i m a₃
  unfolding ring_of
  ring_step k =
      leave_out (2 ^ k) (λ r h. subst (λ (w : ℕ). Folds w r) (pow_eight k) (folds (k + 3) r h)) m (units_from a i) (units_from e (i + 1)) (units_from a₃ (i + 1))
      (λ j l. let h : i + 1 + j ≡ i + suc j = omega arith in kept ((i + 1 + j) % 32) (λ z. omega arith) ∙ ap (λ (y : ℕ). get_or a (y % 32) 0) h)
      (let h : (i + 1 + 31) % 32 ≡ o = omega arith in ap (λ (y : ℕ). get_or e y 0) h ∙ kept-o)
      (added 0 p (omega arith) (at_p ∙ ap (λ (y : ℕ). bit_xor y q) (sym (kept p p≢o))))
      (added 27 s (omega arith) (at-s ∙ ap (λ (y : ℕ). bit_xor y q) (sym (kept s s≢o))))
      (added 31 o (omega arith) (at-o ∙ ap (λ (y : ℕ). bit_xor y q) (sym kept-o)))
      (λ j l n₀ n₂₇ n₃₁.
      let x = (i + 1 + j) % 32 in
      let ho : x ≢ o = λ z. n₃₁ (omega arith) in
      at_other x (λ z. n₀ (omega arith)) (λ z. n₂₇ (omega arith)) ho ∙ sym (kept x ho))
