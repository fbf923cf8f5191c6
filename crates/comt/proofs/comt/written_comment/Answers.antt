-- `comt::written_comment` meets its contract: nothing of an empty text, else the comment. Assumes nothing.
use mathlib.Core.List.{flat_map}
use borrow.Author.Rules.{rules}
use Rattle.chunk.specs.Chunk.{counts}
use Rattle.chunk.proofs.AppendLaws.{none}
use Rattle.chunk.proofs.ListLaws.{flat_map-one}
use Rattle.comt.specs.Comment.{as_written, written_comment, comment_bytes}
use Rattle.texts.proofs.TextLaws.{left_out, written}
use mathlib.Core.Path.{ap}
use mathlib.Core.Bool.{not}
use Rattle.comt.proofs.comt.written_comment.Goals as goal

pub returns-else-writes : goal.returns-else-writes
unfolding written_comment as_written flat_map
returns-else-writes c = rw (left_out c.args.options c.text_count-count.ensures c.writes.ensures (ap not c.if-writes.false)) (none (search rules) (search rules))

pub returns-then-writes : goal.returns-then-writes
unfolding written_comment as_written comment_bytes counts
returns-then-writes c = rw (written c.args.options c.text_count-count.ensures c.writes.ensures (ap not c.if-writes.true)) (rw (flat_map-one) (rw c.text_count-count.ensures at c.comment_bytes.ensures))
