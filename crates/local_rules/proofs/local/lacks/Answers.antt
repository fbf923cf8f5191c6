-- `local::lacks` meets its contract. Assumes nothing.
use mathlib.Core.Path.{◌∙◌}
use Rattle.refusal.proofs.RankLaws.{local-times}
use Rattle.local_rules.proofs.local.lacks.Goals as goal

pub returns : goal.returns
returns c = rw (c.times.ensures ∙ local-times c.args.order.now c.args.name)
