-- The goals that a check leaves.
use Rattle.dst_reads.proofs.WalkLaws.{bound-on}
use Rattle.dst_reads.proofs.walk.bound.Goals as goal

pub loop-length-preserved : goal.loop-length-preserved
loop-length-preserved c = bound-on c.args.block.now c.loop-length.length-index c.loop-length.most c.loop-length.invariant
