-- `diin_text::given_text` meets its contract: nothing of an empty text, else a chunk whose size is filled in last. Assumes nothing.
use mathlib.Core.Path.{ap}
use mathlib.Core.Bool.{not}
use native.Mathlib.Omega.{arith}
use borrow.Author.Rules.{rules}
use Rattle.chunk.specs.Chunk.{counts}
use Rattle.chunk.proofs.AppendLaws.{none}
use Rattle.diin_texts.specs.DiinText.{given_text_bytes, diin_text_data}
use Rattle.texts.specs.Extent.{part}
use Rattle.texts.specs.Text.{text_bytes}
use Rattle.texts.proofs.TextLaws.{left_out, written, extent_short}
use Rattle.diin_texts.proofs.DiinTextLaws.{length-diin-text}
use Rattle.diin_texts.proofs.diin_text.given_text.Goals as goal

pub returns-then-not-writes : goal.returns-then-not-writes
unfolding given_text_bytes
returns-then-not-writes c = rw (left_out c.args.options c.text_count-count.ensures c.writes.ensures (ap not c.if-not-writes.true)) (none (search rules) (search rules))

pub returns : goal.returns
unfolding given_text_bytes diin_text_data counts
returns c = let text = text_bytes c.args.options.rule (part c.args.pool.now c.args.text) in
    let short = extent_short c.args.options.rule c.args.pool.now c.args.text in
    rw (written c.args.options c.text_count-count.ensures c.writes.ensures (ap not c.if-not-writes.false))
    (c.chunk_of.ensures _ (omega (arith, short, length-diin-text text c.args.options)) (rw (← c.text_count-count.ensures) (search rules)))
