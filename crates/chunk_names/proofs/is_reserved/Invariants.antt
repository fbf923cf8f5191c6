-- `is_reserved` meets its contract. `found` tells whether the name is among those gone over. Assumes nothing.
use mathlib.Core.Path.{◌≡◌}
use lib.ListN.{take}
use Rattle.chunk_names.specs.Name.{among, reserved_names}
use Rattle.chunk_names.proofs.is_reserved.Given as goal

abbrev pub invariant-loop-reserved : goal.invariant-loop-reserved
invariant-loop-reserved l = l.found ≡ among l.id (take l.reserved-index reserved_names)
