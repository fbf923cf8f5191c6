-- `crc::words` meets its contract: units of 1, 2, 4 and 8 bytes. Assumes nothing.
use Rattle.std.proofs.Common.{refl, ◌∙◌}
use Rattle.checksum.proofs.crc.words.Goals as goal

pub returns : goal.returns
returns c = c.fed.ensures ∙ c.halved-bytes.ensures 0 refl ∙ c.halved-quarters.ensures 1 refl ∙ c.halved-halves.ensures 2 refl ∙ c.folded-ring.ensures
