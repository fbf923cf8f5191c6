-- The goals that a check leaves.
use Rattle.std.proofs.Common.{◌∙◌}
use Rattle.checksum.specs.Crc.{crc_of, bytes_of}
use Rattle.checksum.proofs.RingLaws.{ring_start, word_more}
use Rattle.checksum.proofs.fold.folded.Goals as goal

pub loop-i-init : goal.loop-i-init
unfolding crc_of bytes_of
loop-i-init c = ring_start 8

pub loop-i-preserved : goal.loop-i-preserved
loop-i-preserved c =
    c.push_unit.ensures 3
    ∙ word_more c.args.words.now c.loop-i.i _ _ c.loop-i-test.true (c.told-words c.loop-i.i c.loop-i-test.true) c.word.ensures c.loop-i.invariant
