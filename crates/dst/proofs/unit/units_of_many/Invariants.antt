-- `unit::units_of_many` meets its contract. The invariant: the sum is where the next unit starts. Assumes nothing.
use mathlib.Core.Path.{◌≡◌}
use Prim.Native.Nat.{◌-◌, ◌^◌, min}
use Rattle.dst.specs.Unit.{sizes}
use Rattle.dst.specs.Start.{start}
use Rattle.dst.proofs.unit.units_of_many.Given as goal

abbrev pub invariant-loop-length : goal.invariant-loop-length
invariant-loop-length l = l.all ≡ min (start (sizes l.crc l.lengths) l.length-index) (2 ^ 64 - 1)
