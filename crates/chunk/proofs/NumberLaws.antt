-- Big-endian bytes, at every width. Assumes nothing.
use mathlib.Core.Path.{◌≡◌, refl, sym, ◌∙◌}
use mathlib.Core.List.{List, [], ◌∷◌, ◌++◌, append_assoc, append-nil}
use Prim.Native.Nat.{ℕ, zero, suc, ◌+◌, ◌*◌, ◌/◌, ◌%◌, ◌^◌, ◌<◌}
use native.Mathlib.Nat.{add-suc, add-zero, pow-suc, pow-succ', one-le-pow, div-one, mod-one, mod-eq_of_lt, div-div-eq-div-mul, mul_assoc}
use native.Mathlib.Numerals.{add-one}
use native.Mathlib.Omega.{arith}
use lib.Arith.{mod-mul}
use lib.Dec.{lit<}
use lib.ListN.{length, take, drop, length-append}
use lib.Seq.{drop_at, take_all}
use Rattle.std.specs.Int.{bytes_high_first}
use Rattle.chunk.specs.Number.{be, num}

pub length-be : (n x : ℕ) → length (be n x) ≡ n
unfolding be
length-be zero x = refl
length-be (suc n) x = simp (length-append, length-be n (x / 256)) (omega arith)

-- the high bytes, then the low bytes
pub be-append : (m n x : ℕ) → be m (x / 256 ^ n) ++ be n x ≡ be (m + n) x
unfolding be
be-append m zero x = rw (append-nil, div-one, add-zero)
be-append m (suc n) x = rw (pow-succ', ← div-div-eq-div-mul, ← append_assoc, add-suc) (rw (be-append m n (x / 256)))

-- what `to_be_bytes` gives
pub high_first : (n x : ℕ) → bytes_high_first n x ≡ be n x
unfolding be
high_first zero x = refl
high_first (suc zero) x = refl
high_first (suc (suc n)) x = let e : 1 + suc n ≡ suc (suc n) = omega arith in
    rw (high_first (suc n) x) (rw e at (be-append 1 (suc n) x))

-- the last n bytes
pub be-last : (m n x : ℕ) → take n (drop m (be (m + n) x)) ≡ be n x
be-last m n x =
    rw (← be-append m n x, drop_at (be m (x / 256 ^ n)) (be n x) m (length-be m (x / 256 ^ n))) (take_all n (be n x) (omega (arith, length-be n x)))

num-snoc : (s : List ℕ) (b : ℕ) → num (s ++ (b ∷ [])) ≡ num s * 256 + b
unfolding num
num-snoc [] b = omega arith
num-snoc (a ∷ s) b =
    let high : a * 256 ^ length (s ++ (b ∷ [])) ≡ a * 256 ^ length s * 256 = rw (length-append, add-one, pow-suc, mul_assoc) in
    omega (arith, high, num-snoc s b)

num-be-mod : (n x : ℕ) → num (be n x) ≡ x % 256 ^ n
unfolding be num
num-be-mod zero x = sym (mod-one x)
num-be-mod (suc n) x = rw (num-snoc, num-be-mod n (x / 256), pow-suc) (sym (mod-mul x (one-le-pow n 256 (lit< tt)) (lit< tt)))

-- the bytes of a number spell it
pub num-be : (n x : ℕ) → x < 256 ^ n → num (be n x) ≡ x
num-be n x h = num-be-mod n x ∙ mod-eq_of_lt h
