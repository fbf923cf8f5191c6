-- `marker::mark_head` meets its contract. Assumes nothing.
use Rattle.markers.specs.Marker.{mark_head}
use Rattle.chunk.proofs.AppendLaws.{◌then◌}
use Rattle.markers.proofs.marker.mark_head.Goals as goal

pub returns : goal.returns
unfolding mark_head
returns c = rw (← c.frame.ensures, ← c.time.ensures, ← c.value.ensures, ← c.flags.ensures)
    (c.time_bytes-c.ensures then c.be32-c.ensures then c.be16-c.ensures then c.be16-c-2.ensures then c.be16.ensures)
