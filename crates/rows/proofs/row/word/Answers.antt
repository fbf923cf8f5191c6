-- `row::word` meets its contract: a word is there up to the last one of a row that is cut short. Assumes nothing.
use native.Mathlib.Omega.{arith}
use lib.ListN.{length}
use Rattle.rows.proofs.RowLaws.{rows_past, no_word, word_past}
use Rattle.rows.proofs.row.word.Goals as goal
use Rattle.rows.proofs.row.word.Goals.{else-j-w-via-then-j-w+else-k-rows, else-j-w-via-else-j-w}

pub returns-else-j-w : goal.returns-else-j-w
returns-else-j-w c = elim c.else-j-w.branch [
  | else-j-w-via-then-j-w+else-k-rows w ↦
      let past = rows_past (length c.args.rows.now) c.args.w c.args.k (omega arith) (omega (arith, w.if-k-rows.false)) in
      word_past c.args.rows.now c.args.w c.args.k c.args.j w.if-j-w.true (omega (arith, past))
  | else-j-w-via-else-j-w w ↦ no_word c.args.rows.now c.args.w c.args.k c.args.j w.if-j-w.false
]
