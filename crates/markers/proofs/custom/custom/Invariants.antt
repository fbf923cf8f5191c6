-- `custom::custom` meets its contract. The loop's invariant: the markers of the rows so far are appended, and the other rows are still to come. Assumes nothing.
use mathlib.Core.Path.{◌≡◌}
use mathlib.Core.List.{map, ◌++◌}
use Rattle.std.specs.Slice.Iter.{chunks_exact_rest, chunks_exact_size}
use Rattle.chunk.specs.Append.{Appended}
use Rattle.tree.specs.Tree.{bytes, each}
use Rattle.markers.specs.Marker.{mark}
use Rattle.markers.specs.Custom.{custom_of, customs}
use Rattle.markers.proofs.custom.custom.Given as goal

abbrev pub invariant-loop-row : goal.invariant-loop-row
invariant-loop-row l = let ms = map (λ row. custom_of row.now) l.yielded in record {
  size : chunks_exact_size l.row-iterator ≡ 4;
  rest : customs l.rows ≡ ms ++ customs (chunks_exact_rest l.row-iterator);
  written : Appended l.initial.out l.initial.c.at (bytes (each (mark l.pools.text.now l.pools.bytes.now l.how) ms)) l.out l.c.at;
}
