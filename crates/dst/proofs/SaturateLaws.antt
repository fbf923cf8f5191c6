-- Sums that stop at the largest u64. Assumes nothing.
use mathlib.Core.Path.{◌≡◌}
use Prim.Native.Nat.{ℕ, ◌+◌, ◌-◌, ◌^◌, ◌<◌, min}
use native.Mathlib.Omega.{arith}
use Rattle.chunk.specs.Append.{moved}

pub moved-fits : (a n : ℕ) → a + n < 2 ^ 64 → moved a n ≡ a + n
moved-fits a n h = omega arith

pub moved-zero : (a : ℕ) → a < 2 ^ 64 → moved a 0 ≡ a
moved-zero a h = omega arith

-- a sum that stopped adds up to one that stops
pub moved_capped : (a n : ℕ) → moved a (min n (2 ^ 64 - 1)) ≡ moved a n
moved_capped a n = omega arith

pub moved-lt : (a n : ℕ) → moved a n < 2 ^ 64
moved-lt a n = omega arith
