-- `walk::block_size` meets its contract. The invariant: the sum is where the next unit starts, and is at most what so many units of small lengths
-- can have, so that it fits. Assumes nothing.
use mathlib.Core.Path.{◌≡◌}
use Prim.Native.Nat.{◌≤◌, ◌*◌}
use Rattle.dst.specs.Start.{start}
use Rattle.dst.specs.Unit.{sizes}
use Rattle.dst_reads.proofs.walk.block_size.Given as goal

abbrev pub invariant-loop-length : goal.invariant-loop-length
invariant-loop-length l = record {
  small : l.all ≤ l.length-index * 33554460;
  sum : l.all ≡ start (sizes l.crc l.block) l.length-index;
}
