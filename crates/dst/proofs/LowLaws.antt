-- Low bytes. Assumes nothing.
use mathlib.Core.Path.{◌≡◌, refl}
use Prim.Native.Nat.{ℕ, zero, suc, ◌/◌, ◌%◌, ◌^◌, ◌<◌}
use native.Mathlib.Nat.{pow-suc, one-le-pow, mod-lt}
use lib.Arith.{mod-mul, digits_div, digits_mod}
use lib.Dec.{lit<}
use Rattle.chunk.specs.Number.{be}

-- n bytes show a number only up to 256 ^ n
pub be-mod : (n x : ℕ) → be n (x % 256 ^ n) ≡ be n x
unfolding be
be-mod zero x = refl
be-mod (suc n) x =
    let b : x % 256 < 256 = mod-lt x (lit< tt) in
    rw (pow-suc, mod-mul x (one-le-pow n 256 (lit< tt)) (lit< tt), digits_div (x / 256 % 256 ^ n) b, digits_mod (x / 256 % 256 ^ n) b, be-mod n (x / 256))
