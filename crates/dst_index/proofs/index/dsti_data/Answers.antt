-- `index::dsti_data` meets its contract. Assumes nothing.
use native.Mathlib.Omega.{arith}
use borrow.Author.Rules.{rules}
use Rattle.chunk.proofs.AppendLaws.{none}
use Rattle.dst_index.proofs.IndexLaws.{index_past}
use Rattle.dst_index.proofs.index.dsti_data.Goals as goal

pub returns-then-out-c : goal.returns-then-out-c
returns-then-out-c c =
    index_past c.args.crc _ c.args.lengths.now (none (search rules) (search rules)) c.if-out-c.true (omega (arith, c.saturating_mul.ensures))
    c.skip.ensures
