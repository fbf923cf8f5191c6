-- `extents::extents` meets its contract. Assumes nothing.
use mathlib.Core.Path.{◌≡◌}
use lib.ListN.{length}
use Rattle.refusal.specs.Below.{any}
use Rattle.rows.specs.Row.{width, extent_at}
use Rattle.rows.proofs.RowLaws.{RowsLeft}
use Rattle.row_extents.specs.Extents.{is_long, is_outside}
use Rattle.row_extents.proofs.extents.extents.Given as goal

abbrev pub invariant-loop-row : goal.invariant-loop-row
invariant-loop-row l = record {
  left : RowsLeft (width l.kind) l.rows l.row-iterator (length l.yielded);
  long : l.long ≡ any (λ i. is_long l.longest (extent_at l.kind l.rows i)) (length l.yielded);
  outside : l.outside ≡ any (λ i. is_outside l.pool (extent_at l.kind l.rows i)) (length l.yielded);
}
