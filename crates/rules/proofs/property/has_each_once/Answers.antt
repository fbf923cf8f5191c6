-- `property::has_each_once` meets its contract. Assumes nothing.
use mathlib.Core.Path.{◌∙◌}
use Rattle.refusal.proofs.RankLaws.{property-once}
use Rattle.rules.proofs.property.has_each_once.Goals as goal

pub returns : goal.returns
returns c = rw c.table_order-names.ensures at c.each_once.ensures ∙ property-once c.args.order
