-- `local::faults_of` meets its contract. Assumes nothing.
use mathlib.Core.Path.{sym}
use native.Mathlib.Omega.{arith}
use lib.Seq.{length-take-le}
use Rattle.refusal.specs.Orders.{local_rank}
use Rattle.local_rules.proofs.ListLaws.{map_take}
use Rattle.local_rules.proofs.local.faults_of.Goals as goal

pub slice_bounds-order_faults-end : goal.slice_bounds-order_faults-end
slice_bounds-order_faults-end c = sym (length-take-le _ _ (omega (arith, c.min.ensures, c.well_formed.0.1.0.1)))

pub returns : goal.returns
returns c = rw (map_take local_rank c.min.result c.args.order, c.min.ensures) at c.order_faults.ensures
