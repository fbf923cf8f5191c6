-- `crc::next` meets its contract. Assumes nothing.
use Prim.Native.Nat.{◌^◌, ◌/◌}
use lib.Bits.{bit_xor}
use Rattle.checksum.proofs.CrcLaws.{byte_step, index-lt}
use Rattle.checksum.proofs.crc.next.Goals as goal

pub returns : goal.returns
returns c = byte_step c.args.r c.args.b _ c.ranges.r.fits c.ranges.b.fits
    (c.requires (bit_xor (c.args.r / 2 ^ 24) c.args.b) (index-lt c.args.r c.args.b c.ranges.r.fits c.ranges.b.fits))
