-- The goals that a check leaves.
use mathlib.Core.Path.{refl}
use native.Mathlib.Numerals.{add-one}
use native.Mathlib.Omega.{arith}
use Rattle.dst.specs.Start.{sum}
use Rattle.dst.proofs.StartLaws.{sum-suc}
use Rattle.sound_reads.proofs.lent.joined.Goals as goal

pub loop-length-init : goal.loop-length-init
unfolding sum
loop-length-init c = refl

pub loop-length-preserved : goal.loop-length-preserved
loop-length-preserved c =
    let next = sum-suc c.args.lengths.now c.loop-length.length-index c.loop-length-test.true in
    rw add-one (omega (arith, next, c.saturating_add-all.ensures, c.loop-length.invariant))
