-- `fold::word` meets its contract. Assumes nothing.
use Rattle.checksum.proofs.RingLaws.{word_next}
use Rattle.checksum.proofs.fold.word.Goals as goal

pub returns : goal.returns
returns c r = rw c.from_le_bytes.ensures (word_next c.args.bytes.now c.told-bytes c.fits-bytes r)
