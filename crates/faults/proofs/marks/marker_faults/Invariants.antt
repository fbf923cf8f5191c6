-- `marks::marker_faults` meets its contract. Assumes nothing.
use mathlib.Core.Path.{◌≡◌}
use lib.ListN.{length}
use Rattle.std.specs.Prelude.{Ok}
use Rattle.refusal.specs.Below.{first_refused}
use Rattle.rows.proofs.RowLaws.{RowsLeft}
use Rattle.faults.specs.Marks.{marker_fault}
use Rattle.faults.proofs.marks.marker_faults.Given as goal

-- none of the markers so far is refused
abbrev pub invariant-loop-row : goal.invariant-loop-row
invariant-loop-row l = record {
  left : RowsLeft 4 l.markers l.row-iterator (length l.yielded);
  none : Ok tt ≡ first_refused (marker_fault l.markers l.raw l.rule l.first l.end) (length l.yielded);
}
