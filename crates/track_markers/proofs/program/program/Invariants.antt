-- `program::program` meets its contract. The loop's invariant: the markers of the spans of the tracks so far are written but the last one's stop, which is known,
-- and the other tracks are still to come. Assumes nothing.
use mathlib.Core.Path.{◌≡◌}
use mathlib.Core.List.{map, ◌++◌}
use Rattle.std.specs.Prelude.{None}
use Rattle.std.specs.Slice.Iter.{chunks_exact_rest, chunks_exact_size}
use Rattle.chunk.specs.Append.{Appended}
use Rattle.tree.specs.Tree.{bytes, each}
use Rattle.markers.specs.Marker.{mark}
use Rattle.tracks.specs.Track.{span_of, spans, clipped}
use Rattle.track_markers.proofs.ProgramLaws.{opened, last_stop}
use Rattle.track_markers.proofs.program.program.Given as goal

abbrev pub invariant-loop-row : goal.invariant-loop-row
invariant-loop-row l = let ss = map (λ row. span_of row.now) l.yielded in let xs = clipped l.p.first l.p.end ss in record {
  size : chunks_exact_size l.row-iterator ≡ 4;
  rest : spans l.tracks ≡ ss ++ spans (chunks_exact_rest l.row-iterator);
  stop : l.done.stop ≡ last_stop None xs;
  written : Appended l.initial.out l.initial.done.end.at (bytes (each (mark l.pools.text.now l.pools.bytes.now l.how) (opened l.p.titles None xs))) l.out l.done.end.at;
}
