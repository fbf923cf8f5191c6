-- `fold::folded` meets its contract. The invariant: the ring has the CRC of the words so far. Assumes nothing.
use Rattle.std.proofs.Common.{◌≡◌, take}
use Rattle.std.specs.List.{concat}
use Rattle.checksum.specs.Crc.{crc_of}
use Rattle.checksum.specs.Steps.{ring_of}
use Rattle.checksum.proofs.fold.folded.Given as goal

abbrev pub invariant-loop-i : goal.invariant-loop-i
invariant-loop-i l = ring_of 8 l.ring l.i ≡ crc_of (concat (take l.i l.words))
