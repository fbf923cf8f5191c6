-- DSD sound of any area fits a u64. Assumes nothing.
use Prim.Native.Nat.{ℕ, ◌*◌, ◌^◌, ◌<◌}
use native.Mathlib.Nat.{mul_comm}
use native.Mathlib.Omega.{arith}
use Rattle.dst.specs.Frame.{frame_bytes}
use Rattle.dst.proofs.FrameLaws.{sound-short}

pub dsd_fits : (n channels : ℕ) → channels < 2 ^ 8 → n < 2 ^ 32 → n * frame_bytes channels < 2 ^ 64
dsd_fits n channels h k = rw mul_comm (omega (arith, sound-short channels n h k))
