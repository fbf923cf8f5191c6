-- `comt::comt` meets its contract: nothing, or a chunk whose comments are counted ahead and whose size is filled in last. Assumes nothing.
use mathlib.Core.Bool.{true, false}
use mathlib.Core.Path.{◌≡◌}
use lib.ListN.{length}
use native.Mathlib.Omega.{arith}
use borrow.Author.Rules.{rules}
use Rattle.chunk.proofs.AppendLaws.{none}
use Rattle.comt.specs.Comment.{written_comments, comt_data, has_comt, comt}
use Rattle.comt.proofs.CommentLaws.{words_fit, comt-count, comt_data-short}
use Rattle.comt.proofs.comt.comt.Goals as goal

pub returns-then-not-count : goal.returns-then-not-count
unfolding comt has_comt
returns-then-not-count c = let cs = written_comments c.args.pool.now c.args.rows.now c.args.options in
    let left_out : has_comt cs ≡ false = rw (← c.comments_count-count.ensures) c.if-not-count.true in
    rw left_out (none (search rules) (search rules))

pub overflow_cast-told : goal.overflow_cast-told
unfolding has_comt
overflow_cast-told c = let cs = written_comments c.args.pool.now c.args.rows.now c.args.options in
    let has : has_comt cs ≡ true = rw (← c.comments_count-count.ensures) c.if-not-count.false in
    omega (arith, c.comments_count-count.ensures, comt-count cs has)

pub returns : goal.returns
unfolding comt has_comt comt_data
returns c = let cs = written_comments c.args.pool.now c.args.rows.now c.args.options in
    let has : has_comt cs ≡ true = rw (← c.comments_count-count.ensures) c.if-not-count.false in
    let fits = words_fit c.args.pool.now c.args.options c.args.rows.now (λ k. omega (arith, c.type_inv.rows k)) in
    rw has
    (c.chunk_of.ensures _ (omega (arith, comt_data-short _ cs fits has (length cs))) (rw (← c.comments_count-count.ensures) (search rules)))
