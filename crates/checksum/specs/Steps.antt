-- Steps of the CRC: units of some bytes, the first byte lowest, and a ring of 32 of them.
-- Only contracts of private functions cite these; no promise of a public function does. Assumes nothing.
use Rattle.std.specs.Prelude.{ℕ, zero, suc, ◌+◌, ◌*◌, ◌/◌, ◌%◌, ◌^◌, List, ◌≡◌, get_or, drop}
use Rattle.checksum.specs.Crc.{byte_of, bytes_of}

-- the register r after the n low bytes of w
unfoldable pub feed : ℕ → ℕ → ℕ → ℕ
feed zero r w = r
feed (suc n) r w = feed n (byte_of r (w % 256)) (w / 256)

-- the register r after the units f 0, .., f (k - 1), of n bytes each
unfoldable pub after_units : ℕ → ℕ → (ℕ → ℕ) → ℕ → ℕ
after_units n r f zero = r
after_units n r f (suc k) = feed n (after_units n r f k) (f k)

-- the units of a ring of 32, from the place i on
abbrev pub units_from : List ℕ → ℕ → ℕ → ℕ
units_from a i j = get_or a ((i + j) % 32) 0

-- the register after them, where they have n bytes each
unfoldable pub ring_of : ℕ → List ℕ → ℕ → ℕ
ring_of n a i = after_units n 0 (units_from a i) 32

-- w stands for the next 8 bytes of s, from the place i on: it does to any register what they do
abbrev pub Next : List ℕ → ℕ → ℕ → Type 0
Next s i w = (r : ℕ) → bytes_of r (drop i s) ≡ bytes_of (feed 8 r w) (drop (i + 8) s)

-- the ring b, from the place after i on, has the register of the ring a from i on and one unit more, for units of 2 ^ k bytes and every k
abbrev pub Pushed : List ℕ → ℕ → ℕ → List ℕ → Type 0
Pushed a i u b = (k : ℕ) → ring_of (2 ^ k) b (i + 1) ≡ feed (2 ^ k) (ring_of (2 ^ k) a i) u

-- the ring b of halves has the register of the ring a from n on, where `half` is one past the largest half
abbrev pub Halved : List ℕ → ℕ → ℕ → List ℕ → Type 0
Halved a n half b = (k : ℕ) → half ≡ 2 ^ (8 * 2 ^ k) → ring_of (2 ^ k) b 0 ≡ ring_of (2 ^ suc k) a n
