-- The goals that a check leaves.
use mathlib.Core.Path.{refl}
use Rattle.rows.specs.Scalars.{has_no_scalar}
use Rattle.refusal.proofs.BelowLaws.{below_none, below_more, below_all}
use Rattle.rows.proofs.scalars.has_no_scalar.Goals as goal

pub loop-x-init : goal.loop-x-init
loop-x-init c = below_none _ _ _

pub loop-x-preserved : goal.loop-x-preserved
loop-x-preserved c = below_more _ _ _ _ c.loop-x.invariant c.is_no_scalar-found.ensures refl

pub returns : goal.returns
unfolding has_no_scalar
returns c = below_all _ _ _ _ _ c.loop-x.invariant c.loop-x.auto.x-index-end c.loop-x-test.false
