-- `property::property_chunk` meets its contract: nothing, or a chunk whose size is filled in last. Assumes nothing.
use mathlib.Core.Path.{sym, ◌∙◌}
use native.Mathlib.Omega.{arith}
use borrow.Author.Rules.{rules}
use Rattle.chunk.proofs.AppendLaws.{none}
use Rattle.prop.proofs.PropertyLaws.{content-short, chunk-written, chunk-left-out}
use Rattle.prop.proofs.property.property_chunk.Goals as goal

pub returns-then-not-is_written : goal.returns-then-not-is_written
returns-then-not-is_written c = rw (chunk-left-out c.args.p c.args.part (sym c.is_written.ensures ∙ c.if-not-is_written.true)) (none (search rules) (search rules))

pub returns : goal.returns
returns c = rw (chunk-written c.args.p c.args.part (sym c.is_written.ensures ∙ c.if-not-is_written.false), ← c.id.ensures)
    (c.chunk_of.ensures _ (omega (arith, content-short c.args.p c.args.part)) (search rules))
