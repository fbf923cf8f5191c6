-- `local::lacks_comt` meets its contract. Assumes nothing.
use Rattle.local_rules.proofs.WrittenLaws.{comt-told}
use Rattle.local_rules.proofs.local.lacks_comt.Goals as goal

pub returns-then-not-lacks : goal.returns-then-not-lacks
returns-then-not-lacks c = rw (← c.lacks.ensures, c.if-not-lacks.true)

pub returns : goal.returns
returns c = rw (
  ← c.lacks.ensures,
  c.if-not-lacks.false,
  c.comt-end.ensures.place,
  c.new.ensures,
  comt-told,
)
