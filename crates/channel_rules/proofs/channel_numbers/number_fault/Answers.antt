-- `channel_numbers::number_fault` meets its contract. Assumes nothing.
use mathlib.Core.Path.{◌∙◌}
use lib.ListN.{get_or, take}
use Rattle.refusal.proofs.OrderLaws.{contains-times}
use Rattle.refusal.proofs.VerdictLaws.{refused_here, accepted_here}
use Rattle.channel_rules.proofs.channel_numbers.number_fault.Goals as goal

pub returns-in_err-refuse_if : goal.returns-in_err-refuse_if
returns-in_err-refuse_if c = refused_here _ _ c.in_err-refuse_if.ensures c.from_residual.ensures.1

pub returns : goal.returns
returns c = let there = c.contains.ensures.value ∙ contains-times (get_or c.args.numbers.now c.args.k 0) (take c.args.k c.args.numbers.now) in
    accepted_here _ _ c.in_ok-refuse_if.ensures (rw (← there) c.refuse_if-2.ensures)
