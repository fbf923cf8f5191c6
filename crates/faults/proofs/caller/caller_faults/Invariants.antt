-- `caller::caller_faults` meets its contract. Assumes nothing.
use mathlib.Core.Path.{◌≡◌}
use lib.ListN.{length}
use Rattle.std.specs.Prelude.{Ok}
use Rattle.refusal.specs.Below.{first_refused}
use Rattle.rows.proofs.RowLaws.{RowsLeft}
use Rattle.faults.specs.Caller.{name_fault, caller_name}
use Rattle.faults.proofs.caller.caller_faults.Given as goal

-- none of the names so far is refused
abbrev pub invariant-loop-row : goal.invariant-loop-row
invariant-loop-row l = record {
  left : RowsLeft 3 l.callers l.row-iterator (length l.yielded);
  none : Ok tt ≡ first_refused (λ i. name_fault (caller_name l.callers i)) (length l.yielded);
}
