-- `text::counted_text` meets its contract. Assumes nothing.
use Rattle.chunk.proofs.AppendLaws.{◌then◌}
use Rattle.texts.proofs.text.counted_text.Goals as goal

pub returns : goal.returns
returns c = c.be32.ensures then c.text_bytes.ensures
