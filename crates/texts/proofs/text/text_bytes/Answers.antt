-- `text::text_bytes` meets its contract: the places in the pool hold the part of it. Assumes nothing.
use Rattle.texts.proofs.ExtentLaws.{part_places}
use Rattle.texts.proofs.text.text_bytes.Goals as goal

pub returns : goal.returns
returns c = rw (c.first.ensures, c.end.ensures, part_places c.args.pool.now c.args.text) at c.text_values.ensures
