-- `walk::locate` meets its contract. The invariant: from the position on, `within` is the place that is sought. Assumes nothing.
use mathlib.Core.Path.{◌≡◌}
use Prim.Native.Nat.{◌+◌}
use Rattle.dst.specs.Start.{start}
use Rattle.dst.specs.Unit.{sizes}
use Rattle.dst_reads.proofs.walk.locate.Given as goal

abbrev pub invariant-loop-position : goal.invariant-loop-position
invariant-loop-position l = start (sizes l.crc l.lengths) l.position + l.within ≡ l.place
