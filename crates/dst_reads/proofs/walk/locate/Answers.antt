-- The goals that a check leaves.
use mathlib.Core.Path.{◌≡◌}
use native.Mathlib.Omega.{arith}
use lib.ListN.{length}
use Rattle.dst.specs.Unit.{unit_size}
use Rattle.dst_reads.proofs.WalkLaws.{walk_here, walk-on, walk_past}
use Rattle.dst_reads.proofs.walk.locate.Goals as goal

pub returns-then-within-size : goal.returns-then-within-size
returns-then-within-size c =
    walk_here (unit_size c.args.crc) c.args.lengths.now c.args.place c.loop-position.position c.loop-position.within c.loop-position.invariant c.loop-position-test.true
    (rw c.unit_size-size.ensures at c.if-within-size.true)

pub loop-position-preserved : goal.loop-position-preserved
loop-position-preserved c =
    rw c.unit_size-size.ensures
    (walk-on (unit_size c.args.crc) c.args.lengths.now c.args.place c.loop-position.position c.loop-position.within c.loop-position.invariant c.loop-position-test.true
    (rw c.unit_size-size.ensures at c.if-within-size.false))

pub returns : goal.returns
returns c =
    let all : c.loop-position.position ≡ length c.args.lengths.now = omega (arith, c.past_blocks-start.ensures.0) in
    rw all at (walk_past (unit_size c.args.crc) c.args.lengths.now c.args.place c.loop-position.position c.loop-position.within c.loop-position.invariant all)
