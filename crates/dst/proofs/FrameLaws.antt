-- How long the sound of frames can be. Assumes nothing.
use Prim.Native.Nat.{ℕ, ◌*◌, ◌^◌, ◌≤◌, ◌<◌}
use native.Mathlib.Nat.{mul-le-mul_right}
use native.Mathlib.Omega.{arith}
use Rattle.dst.specs.Frame.{frame_bytes}

-- every place of the sound is a number of 63 bits
pub sound-short : (channels n : ℕ) → channels < 2 ^ 8 → n < 2 ^ 32 → frame_bytes channels * n < 2 ^ 63
unfolding frame_bytes
sound-short channels n h k =
    let m : 4704 * channels * n ≤ 1199520 * n = mul-le-mul_right n (omega arith) in
    omega arith
