-- The goals that a check leaves.
use mathlib.Core.Path.{refl, ap}
use mathlib.Core.Bool.{not}
use Rattle.faults.specs.TextBytes.{has_no_text}
use Rattle.refusal.proofs.BelowLaws.{below_none, below_more, below_all}
use Rattle.faults.proofs.text_bytes.has_no_text.Goals as goal

pub loop-byte-init : goal.loop-byte-init
loop-byte-init c = below_none _ _ _

pub loop-byte-preserved : goal.loop-byte-preserved
loop-byte-preserved c = below_more _ _ _ _ c.loop-byte.invariant (ap not c.passes.ensures) refl

pub returns : goal.returns
unfolding has_no_text
returns c = below_all _ _ _ _ _ c.loop-byte.invariant c.loop-byte.auto.byte-index-end c.loop-byte-test.false
