-- `callers::caller_chunks` meets its contract. The loop's invariant: the chunks of the rows so far are appended, and the other rows are still to come. Assumes nothing.
use mathlib.Core.Path.{◌≡◌}
use mathlib.Core.List.{flat_map, ◌++◌}
use Rattle.std.specs.Slice.Iter.{chunks_exact_rest, chunks_exact_size}
use Rattle.chunk.specs.Append.{Appended}
use Rattle.tree.specs.Tree.{bytes}
use Rattle.caller_chunks.specs.Caller.{caller_chunk, caller_chunks}
use Rattle.caller_chunks.proofs.callers.caller_chunks.Given as goal

abbrev pub invariant-loop-row : goal.invariant-loop-row
invariant-loop-row l = let made = flat_map (λ row. bytes (caller_chunk l.raw row.now)) l.yielded in record {
  size : chunks_exact_size l.row-iterator ≡ 3;
  rest : bytes (caller_chunks l.raw l.callers) ≡ made ++ bytes (caller_chunks l.raw (chunks_exact_rest l.row-iterator));
  written : Appended l.initial.out l.initial.c.at made l.out l.c.at;
}
