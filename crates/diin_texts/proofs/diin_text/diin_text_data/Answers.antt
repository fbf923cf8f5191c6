-- `diin_text::diin_text_data` meets its contract. Assumes nothing.
use Rattle.chunk.proofs.AppendLaws.{◌then◌}
use mathlib.Core.List.{◌++◌}
use Rattle.chunk.specs.Number.{be}
use Rattle.texts.specs.Extent.{part}
use Rattle.texts.specs.Text.{text_bytes}
use Rattle.diin_texts.proofs.diin_text.diin_text_data.Goals as goal

pub returns : goal.returns
returns c = let counted = be 4 c.args.count ++ text_bytes c.args.options.rule (part c.args.pool.now c.args.text) in
    ◌then◌ {bs = counted} c.counted_text-c.ensures c.text_pad.ensures
