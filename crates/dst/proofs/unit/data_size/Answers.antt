-- `unit::data_size` meets its contract. Assumes nothing.
use native.Mathlib.Omega.{arith}
use Rattle.dst.specs.Head.{data_size}
use Rattle.dst.proofs.unit.data_size.Goals as goal

pub returns : goal.returns
unfolding data_size
returns c = omega (arith, c.with_frte.ensures, c.units.ensures)
