-- `comt::comment_bytes` meets its contract. Assumes nothing.
use Rattle.chunk.proofs.AppendLaws.{◌then◌}
use mathlib.Core.List.{◌++◌}
use Rattle.chunk.specs.Number.{be}
use Rattle.texts.specs.Extent.{part}
use Rattle.texts.specs.Text.{text_bytes}
use Rattle.comt.proofs.comt.comment_bytes.Goals as goal

pub returns : goal.returns
returns c = let head = rw c.comment_head.ensures at c.bytes-p.ensures in
    let counted = be 4 c.args.count ++ text_bytes c.args.rule (part c.args.pool.now c.args.c.text) in
    ◌then◌ {cs = counted} head c.counted_text-p.ensures then c.pad.ensures
