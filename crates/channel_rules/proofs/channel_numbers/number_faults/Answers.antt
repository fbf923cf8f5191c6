-- The goals that a check leaves.
use mathlib.Core.Path.{refl}
use lib.ListN.{length}
use Rattle.channel_rules.specs.ChannelNumbers.{number_fault, number_faults}
use Rattle.refusal.proofs.BelowLaws.{below_none, below_more, below_all}
use Rattle.refusal.proofs.VerdictLaws.{first-found}
use Rattle.channel_rules.proofs.channel_numbers.number_faults.Goals as goal

pub loop-k-init : goal.loop-k-init
loop-k-init c = below_none _ _ _

pub returns-in_err-number_fault : goal.returns-in_err-number_fault
unfolding number_faults
returns-in_err-number_fault c =
    first-found (number_fault c.args.numbers.now) c.loop-k.k (length c.args.numbers.now) c.loop-k.invariant c.in_err-number_fault.ensures c.loop-k-test.true c.from_residual.ensures.1

pub loop-k-preserved : goal.loop-k-preserved
loop-k-preserved c = below_more _ _ _ _ c.loop-k.invariant c.in_ok-number_fault.ensures refl

pub returns : goal.returns
unfolding number_faults
returns c = below_all _ _ _ _ _ c.loop-k.invariant c.loop-k.auto.k-end c.loop-k-test.false
