-- `local::sound_before_prop` meets its contract. Assumes nothing.
use mathlib.Core.Path.{refl, ◌∙◌}
use mathlib.Core.List.{map}
use native.Mathlib.Omega.{arith}
use lib.ListN.{length, length-map}
use Rattle.std.proofs.Common.{rules, tests}
use Rattle.std.proofs.lemmas.Iterator.{YieldsList-from_range}
use Rattle.std.proofs.lemmas.Iterator.Search.{any_from_yields_List}
use Rattle.refusal.specs.Orders.{local_rank}
use Rattle.refusal.proofs.AnyLaws.{any-range}
use Rattle.local_rules.specs.Local.{sound_first}
use Rattle.local_rules.proofs.local.sound_before_prop.Goals as goal

pub returns : goal.returns
returns c =
    rw (length-map c.args.order.now local_rank)
    (any_from_yields_List (sound_first (map local_rank c.args.order.now)) _ _ _ c.any.ensures.ran
    (YieldsList-from_range 0 (length c.args.order.now) (length c.args.order.now) refl (omega arith)) (λ x b q k. search (rules, tests))
    ∙ any-range _ _)
