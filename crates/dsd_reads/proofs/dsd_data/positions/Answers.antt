-- `dsd_data::positions` meets its contract. Assumes nothing.
use lib.ListN.{replicate}
use Rattle.dst.proofs.FrameLaws.{sound-short}
use Rattle.sound_reads.proofs.PlaceLaws.{inside, byte_at_lem}
use Rattle.dsd_reads.proofs.dsd_data.positions.Goals as goal

pub locate-place-requires : goal.locate-place-requires
locate-place-requires c = rw c.frame_bytes-frame.ensures (sound-short c.args.channels c.args.n c.ranges.channels.fits c.ranges.n.fits)

pub touched-requires : goal.touched-requires
touched-requires c = rw c.locate-place.ensures (inside (replicate c.args.n c.frame_bytes-frame.result) c.args.from)

pub returns : goal.returns
returns c = rw (← c.frame_bytes-frame.ensures, ← byte_at_lem (replicate c.args.n c.frame_bytes-frame.result) c.args.from, ← c.locate-place.ensures) c.touched.ensures
