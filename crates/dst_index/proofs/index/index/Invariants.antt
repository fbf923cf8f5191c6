-- `index::index` meets its contract. The loop's invariant: the entries of the frames so far are appended, and `at` is where the next frame's entry
-- leads. Assumes nothing.
use mathlib.Core.Path.{◌≡◌}
use lib.ListN.{length}
use Rattle.chunk.specs.Append.{Appended, moved}
use Rattle.dst.specs.Unit.{sizes}
use Rattle.dst.specs.Start.{start}
use Rattle.dst_index.specs.Index.{entry_of, joined}
use Rattle.dst_index.proofs.index.index.Given as goal

abbrev pub invariant-loop-length : goal.invariant-loop-length
invariant-loop-length l = record {
  room : length l.out ≡ length l.initial.out;
  next : l.at ≡ moved l.initial.at (start (sizes l.crc l.lengths) l.length-index);
  entries : Appended l.initial.out l.initial.c.at (joined (entry_of l.crc l.initial.at l.lengths) l.length-index) l.out l.c.at;
}
