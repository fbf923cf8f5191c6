-- `local::lacks_diin` meets its contract. Assumes nothing.
use Rattle.local_rules.proofs.WrittenLaws.{diin-told}
use Rattle.local_rules.proofs.local.lacks_diin.Goals as goal

pub returns-then-not-lacks : goal.returns-then-not-lacks
returns-then-not-lacks c = rw (← c.lacks.ensures, c.if-not-lacks.true)

pub returns : goal.returns
returns c = rw (
  ← c.lacks.ensures,
  c.if-not-lacks.false,
  c.diin-end.ensures.place,
  c.new.ensures,
  diin-told,
)
