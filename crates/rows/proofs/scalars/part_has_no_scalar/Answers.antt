-- `scalars::part_has_no_scalar` meets its contract: the places in the pool hold the part of it. Assumes nothing.
use Rattle.texts.proofs.ExtentLaws.{part_places}
use Rattle.rows.proofs.scalars.part_has_no_scalar.Goals as goal

pub returns : goal.returns
returns c = rw (c.first.ensures, c.end.ensures, part_places c.args.pool.now c.args.e) at c.has_no_scalar.ensures
