-- `text::text_count` meets its contract: the same writer on an empty buffer measures. Assumes nothing.
use mathlib.Core.Path.{sym}
use native.Mathlib.Omega.{arith}
use Rattle.chunk.proofs.AppendLaws.{measured}
use Rattle.texts.proofs.TextLaws.{extent_short}
use Rattle.texts.proofs.text.text_count.Goals as goal

pub returns : goal.returns
returns c = let short = extent_short c.args.rule c.args.pool.now c.args.text in
    sym (measured (rw c.new.ensures at c.text_bytes.ensures) (omega (arith, short)))

pub overflow_cast-result : goal.overflow_cast-result
overflow_cast-result c = omega (arith, returns c, extent_short c.args.rule c.args.pool.now c.args.text)
