-- `unit::start` meets its contract. Assumes nothing.
use Rattle.std.proofs.lemmas.List.{take_min}
use Rattle.dst.proofs.UnitLaws.{start-front}
use Rattle.dst.proofs.unit.start.Goals as goal

pub returns : goal.returns
returns c = rw start-front (rw (c.min.ensures, take_min) at c.units.ensures)
