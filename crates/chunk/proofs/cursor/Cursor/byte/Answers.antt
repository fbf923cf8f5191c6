-- `Cursor::byte` meets its contract. Past the end, the store that is left out would change nothing.
-- Assumes nothing.
use mathlib.Core.Path.{sym}
use borrow.Author.Rules.{rules}
use lib.Seq.{set_out}
use Rattle.chunk.specs.Append.{overlay}
use Rattle.chunk.proofs.cursor.Cursor.byte.Goals as goal

pub returns-then-self-out : goal.returns-then-self-out
unfolding overlay
returns-then-self-out c = search rules

pub returns-else-self-out : goal.returns-else-self-out
unfolding overlay
returns-else-self-out c = record { short = search rules; place = search rules; buffer = sym (set_out c.args.out.now c.args.self.at c.args.b (search rules)) }
