-- `dst_data::positions` meets its contract. Assumes nothing.
use Rattle.dst.specs.Unit.{sizes}
use Rattle.sound_reads.proofs.PlaceLaws.{inside, byte_at_lem}
use Rattle.dst_reads.proofs.dst_data.positions.Goals as goal

pub touched-requires : goal.touched-requires
touched-requires c = rw c.locate-place.ensures (inside (sizes c.args.crc c.args.lengths.now) c.args.from)

pub returns : goal.returns
returns c = rw (← byte_at_lem (sizes c.args.crc c.args.lengths.now) c.args.from, ← c.locate-place.ensures) c.touched.ensures
