-- `comments::comment_faults` meets its contract: none of the comments so far is refused, and the loop carries how many of them will be written. Assumes nothing.
use mathlib.Core.Path.{◌≡◌}
use lib.ListN.{length}
use Rattle.std.specs.Prelude.{Ok}
use Rattle.refusal.specs.Below.{first_refused, how_many}
use Rattle.rows.proofs.RowLaws.{RowsLeft}
use Rattle.comment_faults.specs.Comments.{written_at, comment_fault}
use Rattle.comment_faults.proofs.comments.comment_faults.Given as goal

abbrev pub invariant-loop-row : goal.invariant-loop-row
invariant-loop-row l = record {
  left : RowsLeft 9 l.comments l.row-iterator (length l.yielded);
  none : Ok tt ≡ first_refused (comment_fault l.comments l.pool l.options l.channels) (length l.yielded);
  written : l.before ≡ how_many (written_at l.comments l.pool l.options l.channels) (length l.yielded);
}
