-- `marker::pool_count` meets its contract. Assumes nothing.
use Rattle.markers.proofs.MarkerLaws.{length_places}
use Rattle.markers.proofs.marker.pool_count.Goals as goal

pub returns : goal.returns
returns c = rw (c.end.ensures, c.first.ensures) (length_places c.args.raw.now c.args.e)
