-- `fold::halved` meets its contract. The invariant: the ring, whatever its halves have of bytes, is the first j units. Assumes nothing.
use Rattle.std.proofs.Common.{◌≡◌, ℕ, suc, ◌*◌, ◌^◌}
use Rattle.checksum.specs.Steps.{after_units, units_from, ring_of}
use Rattle.checksum.proofs.fold.halved.Given as goal

abbrev pub invariant-loop-j : goal.invariant-loop-j
invariant-loop-j l = (k : ℕ) → l.half ≡ 2 ^ (8 * 2 ^ k) → ring_of (2 ^ k) l.ring (l.j * 2) ≡ after_units (2 ^ suc k) 0 (units_from l.units l.n) l.j
