-- `unit::units_of_few` meets its contract. The invariant: the sum is where the next unit starts, and is at most what so many units can have
-- (each the longest length, 2^32 − 1, and 29), so that it fits. Assumes nothing.
use mathlib.Core.Path.{◌≡◌}
use Prim.Native.Nat.{◌*◌, ◌≤◌}
use Rattle.dst.specs.Unit.{sizes}
use Rattle.dst.specs.Start.{start}
use Rattle.dst.proofs.unit.units_of_few.Given as goal

abbrev pub invariant-loop-length : goal.invariant-loop-length
invariant-loop-length l = record {
  small : l.all ≤ l.length-index * 4_294_967_324;
  sum : l.all ≡ start (sizes l.crc l.lengths) l.length-index;
}
