-- `marker::unpack` meets its contract. The loop's invariant: what is still to be stored, from marker i on, makes of the table what the contract says.
-- Assumes nothing.
use mathlib.Core.Path.{◌≡◌}
use Prim.Native.Nat.{◌-◌}
use lib.ListN.{length, drop}
use Rattle.dsdiff.specs.Table.{filled}
use Rattle.dsdiff.proofs.marker.unpack.Given as goal

abbrev pub invariant-loop-i : goal.invariant-loop-i
invariant-loop-i l = filled l.table l.i (drop l.i l.markers) ≡ filled l.initial.table 0 l.markers

abbrev pub decreases-loop-i : goal.decreases-loop-i
decreases-loop-i l = length l.markers - l.i
