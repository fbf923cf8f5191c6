-- `diin_text::diin_text` meets its contract: nothing of a text that is missing. Assumes nothing.
use borrow.Author.Rules.{rules}
use Rattle.chunk.proofs.AppendLaws.{none}
use Rattle.diin_texts.proofs.diin_text.diin_text.Goals as goal

pub returns-in-None : goal.returns-in-None
returns-in-None c = rw c.in-None.is (none (search rules) (search rules))
