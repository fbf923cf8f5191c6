-- `Span::has_frames` meets its contract. Assumes nothing.
use mathlib.Core.Path.{refl}
use Rattle.tracks.specs.Track.{has_frames}
use Rattle.tracks.proofs.track.Span.has_frames.Goals as goal

pub returns : goal.returns
unfolding has_frames
returns c = refl
