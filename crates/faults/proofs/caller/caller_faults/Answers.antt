-- The goals that a check leaves.
use mathlib.Core.Path.{refl, ap, ◌∙◌}
use mathlib.Core.List.{List}
use Prim.Native.Nat.{ℕ, ◌/◌}
use native.Mathlib.Omega.{arith}
use borrow.Author.Rules.{rules}
use lib.ListN.{length, get_or, length-append}
use Rattle.faults.specs.Caller.{name_fault, caller_name, caller_faults}
use Rattle.refusal.proofs.BelowLaws.{below_none, below_more}
use Rattle.refusal.proofs.VerdictLaws.{first-found}
use Rattle.rows.proofs.RowLaws.{none_given, row_given, all_given, row_alone}
use Rattle.faults.proofs.caller.caller_faults.Goals as goal

pub loop-row-init : goal.loop-row-init
loop-row-init c = record { left = none_given 3 (search rules) (search rules); none = below_none _ _ _ }

pub returns-in_err-name_fault : goal.returns-in_err-name_fault
unfolding caller_faults
returns-in_err-name_fault c =
    let k = length c.loop-row.yielded in
    let next = row_given 3 k (omega arith) c.loop-row.invariant.left c.in-Some.row c.next.new.self c.in-Some.ensures.steps in
    let word = c.word.ensures ∙ ap (λ (r : List ℕ). get_or r 0 0) (row_alone 3 c.args.callers.now k next.0) in
    let fault = rw (c.name_of.ensures, word) at c.in_err-name_fault.ensures in
    first-found (λ k. name_fault (caller_name c.args.callers.now k)) k (length c.args.callers.now / 3) c.loop-row.invariant.none fault next.1 c.from_residual.ensures.1

pub loop-row-preserved : goal.loop-row-preserved
loop-row-preserved c =
    let k = length c.loop-row.yielded in
    let next = row_given 3 k (omega arith) c.loop-row.invariant.left c.in-Some.row c.next.new.self c.in-Some.ensures.steps in
    let word = c.word.ensures ∙ ap (λ (r : List ℕ). get_or r 0 0) (row_alone 3 c.args.callers.now k next.0) in
    let none = rw (c.name_of.ensures, word) at c.in_ok-name_fault.ensures in
    rw length-append (record { left = next.2; none = below_more _ _ _ _ c.loop-row.invariant.none none refl })

pub returns : goal.returns
unfolding caller_faults
returns c = rw (← all_given 3 (length c.loop-row.yielded) (omega arith) c.loop-row.invariant.left c.next.new.self c.in-None.ensures.steps) c.loop-row.invariant.none
