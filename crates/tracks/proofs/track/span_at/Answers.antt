-- `track::span_at` meets its contract. Assumes nothing.
use mathlib.Core.Path.{◌∙◌, ap}
use Rattle.tracks.specs.Track.{span_of, span_at}
use Rattle.chunk.proofs.RowsLaws.{row_words}
use Rattle.tracks.proofs.track.span_at.Goals as goal

pub returns : goal.returns
unfolding span_at
returns c = c.span_of.ensures ∙ ap span_of (row_words 4 c.args.i c.args.tracks.now)
