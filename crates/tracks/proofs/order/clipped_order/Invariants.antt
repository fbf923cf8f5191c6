-- `order::clipped_order` meets its contract. The loop's invariant: `o` knows the spans of the tracks so far, and the others are still to come. Assumes nothing.
use mathlib.Core.Path.{◌≡◌}
use mathlib.Core.List.{map, ◌++◌}
use Rattle.std.specs.Slice.Iter.{chunks_exact_rest, chunks_exact_size}
use Rattle.tracks.specs.Track.{span_of, spans}
use Rattle.tracks.proofs.OrderLaws.{Passed}
use Rattle.tracks.proofs.order.clipped_order.Given as goal

abbrev pub invariant-loop-row : goal.invariant-loop-row
invariant-loop-row l = let ss = map (λ row. span_of row.now) l.yielded in record {
  size : chunks_exact_size l.row-iterator ≡ 4;
  rest : spans l.tracks ≡ ss ++ spans (chunks_exact_rest l.row-iterator);
  known : Passed l.first l.end ss l.o;
}
