-- `crc::crc` meets its contract. The invariant: the bytes that are left, after the register r, give the CRC of the whole. Assumes nothing.
use Rattle.std.proofs.Common.{◌≡◌, drop}
use Rattle.checksum.specs.Crc.{bytes_of, crc_of}
use Rattle.checksum.proofs.crc.crc.Given as goal

abbrev pub invariant-loop-byte : goal.invariant-loop-byte
invariant-loop-byte l = bytes_of l.r (drop l.byte-index l.byte-items) ≡ crc_of l.content
