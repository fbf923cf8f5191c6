-- `comt::comment_head` meets its contract. Assumes nothing.
use Rattle.chunk.specs.Number.{be}
use Rattle.comt.specs.Comment.{comment_head}
use Rattle.comt.proofs.comt.comment_head.Goals as goal

pub returns : goal.returns
unfolding comment_head be
returns c = rw c.reference-reference.ensures
