-- The goals that a check leaves.
use mathlib.Core.Path.{refl, ap, ◌∙◌}
use mathlib.Core.Bool.{Bool, cond}
use Prim.Native.Nat.{◌/◌}
use native.Mathlib.Omega.{arith}
use borrow.Author.Rules.{rules}
use lib.ListN.{length, length-append}
use Rattle.comt.specs.Comment.{comment_of}
use Rattle.comment_faults.specs.Comments.{comment_fault, comment_faults}
use Rattle.refusal.proofs.BelowLaws.{below_none, below_more}
use Rattle.refusal.proofs.CountLaws.{one-if}
use Rattle.refusal.proofs.VerdictLaws.{first-found}
use Rattle.rows.proofs.RowLaws.{none_given, row_given, all_given}
use Rattle.comment_faults.proofs.comments.comment_faults.Goals as goal

pub loop-row-init : goal.loop-row-init
loop-row-init c = record { left = none_given 9 (search rules) (search rules); none = below_none _ _ _; written = below_none _ _ _ }

pub returns-in_err-fault_of : goal.returns-in_err-fault_of
unfolding comment_faults
returns-in_err-fault_of c =
    let k = length c.loop-row.yielded in
    let next = row_given 9 k (omega arith) c.loop-row.invariant.left c.in-Some.row c.next.new.self c.in-Some.ensures.steps in
    let same = c.comment_of-c.ensures ∙ ap comment_of next.0 in
    let written = rw same at c.is_written-written.ensures in
    let fault = rw (written, same, c.loop-row.invariant.written) at c.in_err-fault_of.ensures in
    first-found (comment_fault c.args.comments.now c.args.pool.now c.args.options c.args.channels) k (length c.args.comments.now / 9) c.loop-row.invariant.none fault next.1 c.from_residual.ensures.1

pub loop-row-preserved : goal.loop-row-preserved
loop-row-preserved c =
    let k = length c.loop-row.yielded in
    let next = row_given 9 k (omega arith) c.loop-row.invariant.left c.in-Some.row c.next.new.self c.in-Some.ensures.steps in
    let same = c.comment_of-c.ensures ∙ ap comment_of next.0 in
    let written = rw same at c.is_written-written.ensures in
    let none = rw (written, same, c.loop-row.invariant.written) at c.in_ok-fault_of.ensures in
    rw length-append
    (record {
      left = next.2;
      none = below_more _ _ _ _ c.loop-row.invariant.none none refl;
      written = below_more _ _ _ _ c.loop-row.invariant.written (c.from-before.ensures ∙ one-if _ ∙ ap (λ (b : Bool). cond b 1 0) written) refl;
    })

pub returns : goal.returns
unfolding comment_faults
returns c = rw (← all_given 9 (length c.loop-row.yielded) (omega arith) c.loop-row.invariant.left c.next.new.self c.in-None.ensures.steps) c.loop-row.invariant.none
