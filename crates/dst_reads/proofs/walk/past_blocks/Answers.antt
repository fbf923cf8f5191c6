-- The goals that a check leaves.
use mathlib.Core.Path.{refl}
use Prim.Native.Nat.{◌/◌, ◌<◌}
use native.Mathlib.Omega.{arith}
use lib.ListN.{length}
use Rattle.dst.specs.Unit.{unit_size}
use Rattle.dst_reads.proofs.WalkLaws.{block_at, block_on, walk_starts}
use Rattle.dst_reads.proofs.walk.past_blocks.Goals as goal

pub loop-block-init : goal.loop-block-init
loop-block-init c = record { passed = refl; place = walk_starts (unit_size c.args.crc) c.args.lengths.now c.args.place }

pub loop-block-preserved : goal.loop-block-preserved
loop-block-preserved c =
    let here = c.loop-block.invariant in
    let known : c.loop-block.block-index < length c.args.lengths.now / 64 = omega arith in
    let size = rw (c.as_chunks.ensures.front, block_at, ← here.passed) at c.block_size-bytes.ensures in
    let next = block_on c.args.crc c.args.lengths.now c.loop-block.position 64 in
    record { passed = omega arith; place = omega arith }
