-- `track::track_span` meets its contract. Assumes nothing.
use borrow.Author.Tests.{lt-ltb, le-ltb}
use Rattle.tracks.specs.Track.{track_span}
use Rattle.tracks.proofs.track.track_span.Goals as goal

pub returns-then-i-tracks : goal.returns-then-i-tracks
unfolding track_span
returns-then-i-tracks c = rw (lt-ltb _ _ c.if-i-tracks.true) c.span_at.ensures

pub returns-else-i-tracks : goal.returns-else-i-tracks
unfolding track_span
returns-else-i-tracks c = rw (le-ltb _ _ c.if-i-tracks.false)
