-- `marker::marker_text` meets its contract: nothing of a text that is missing. Assumes nothing.
use Rattle.chunk.proofs.AppendLaws.{none}
use borrow.Author.Rules.{rules}
use Rattle.markers.proofs.marker.marker_text.Goals as goal

pub returns-in-Empty : goal.returns-in-Empty
returns-in-Empty c = rw c.in-Empty.is (none (search rules) (search rules))
