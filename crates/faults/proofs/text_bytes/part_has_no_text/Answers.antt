-- `text_bytes::part_has_no_text` meets its contract: the places in the pool hold the part of it. Assumes nothing.
use Rattle.texts.proofs.ExtentLaws.{part_places}
use Rattle.faults.proofs.text_bytes.part_has_no_text.Goals as goal

pub returns : goal.returns
returns c = rw (c.first.ensures, c.end.ensures, part_places c.args.raw.now c.args.e) at c.has_no_text.ensures
