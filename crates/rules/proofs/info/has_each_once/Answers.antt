-- `info::has_each_once` meets its contract. Assumes nothing.
use mathlib.Core.Path.{◌∙◌}
use Rattle.refusal.proofs.RankLaws.{info-once}
use Rattle.rules.proofs.info.has_each_once.Goals as goal

pub returns : goal.returns
returns c = rw c.table_order-names.ensures at c.each_once.ensures ∙ info-once c.args.order
