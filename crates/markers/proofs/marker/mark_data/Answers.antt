-- `marker::mark_data` meets its contract. Assumes nothing.
use Rattle.chunk.proofs.AppendLaws.{◌then◌}
use Rattle.markers.proofs.marker.mark_data.Goals as goal

pub returns : goal.returns
returns c = c.mark_head-c.ensures then (c.be32-c.ensures then c.marker_text-c.ensures) then c.text_pad.ensures
