-- `Span::clip` meets its contract. Assumes nothing.
use Rattle.tracks.specs.Track.{clip}
use Rattle.tracks.proofs.track.Span.clip.Goals as goal

pub returns : goal.returns
unfolding clip
returns c = rw (c.max.ensures, c.min.ensures)
