-- `comt::written_comments` meets its contract. The loop's invariant: the comments of the rows so far are appended, and the other rows are still to come. Assumes nothing.
use mathlib.Core.Path.{◌≡◌}
use mathlib.Core.List.{flat_map, ◌++◌}
use Rattle.std.specs.Slice.Iter.{chunks_exact_rest, chunks_exact_size}
use Rattle.chunk.specs.Append.{Appended}
use Rattle.comt.specs.Comment.{written_comments, comment_bytes}
use Rattle.comt.proofs.CommentLaws.{of_row}
use Rattle.comt.proofs.comt.written_comments.Given as goal

abbrev pub invariant-loop-row : goal.invariant-loop-row
invariant-loop-row l = let cs = flat_map (λ row. of_row l.pool l.options row.now) l.yielded in record {
  size : chunks_exact_size l.row-iterator ≡ 9;
  rest : written_comments l.pool l.rows l.options ≡ cs ++ written_comments l.pool (chunks_exact_rest l.row-iterator) l.options;
  written : Appended l.initial.out l.initial.c.at (flat_map comment_bytes cs) l.out l.c.at;
}
