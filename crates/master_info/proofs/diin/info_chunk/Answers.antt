-- `diin::info_chunk` meets its contract: DIAR and DITI as chunks of a tree. Assumes nothing.
use Rattle.diin_texts.proofs.DiinTextLaws.{diin-text_tree}
use Rattle.master_info.proofs.diin.info_chunk.Goals as goal

pub returns-in-Artist : goal.returns-in-Artist
returns-in-Artist c = rw (c.in-Artist.is, diin-text_tree, ← c.chosen-text.ensures) c.diin_text.ensures

pub returns-in-Title : goal.returns-in-Title
returns-in-Title c = rw (c.in-Title.is, diin-text_tree, ← c.chosen-text-in-Title.ensures) c.diin_text-in-Title.ensures
