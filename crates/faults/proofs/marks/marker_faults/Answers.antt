-- The goals that a check leaves.
use mathlib.Core.Path.{refl}
use Prim.Native.Nat.{◌/◌}
use native.Mathlib.Omega.{arith}
use borrow.Author.Rules.{rules}
use lib.ListN.{length, length-append}
use Rattle.faults.specs.Marks.{marker_fault, marker_faults}
use Rattle.refusal.proofs.BelowLaws.{below_none, below_more}
use Rattle.refusal.proofs.VerdictLaws.{first-found}
use Rattle.rows.proofs.RowLaws.{none_given, row_given, all_given, row_alone}
use Rattle.faults.proofs.marks.marker_faults.Goals as goal

pub loop-row-init : goal.loop-row-init
loop-row-init c = record { left = none_given 4 (search rules) (search rules); none = below_none _ _ _ }

pub returns-in_err-marker_fault : goal.returns-in_err-marker_fault
unfolding marker_faults
returns-in_err-marker_fault c =
    let k = length c.loop-row.yielded in
    let next = row_given 4 k (omega arith) c.loop-row.invariant.left c.in-Some.row c.next.new.self c.in-Some.ensures.steps in
    let fault = rw (row_alone 4 c.args.markers.now k next.0) at c.in_err-marker_fault.ensures in
    first-found (marker_fault c.args.markers.now c.args.raw.now c.args.rule c.args.first c.args.end) k (length c.args.markers.now / 4) c.loop-row.invariant.none fault next.1 c.from_residual.ensures.1

pub loop-row-preserved : goal.loop-row-preserved
loop-row-preserved c =
    let k = length c.loop-row.yielded in
    let next = row_given 4 k (omega arith) c.loop-row.invariant.left c.in-Some.row c.next.new.self c.in-Some.ensures.steps in
    let none = rw (row_alone 4 c.args.markers.now k next.0) at c.in_ok-marker_fault.ensures in
    rw length-append (record { left = next.2; none = below_more _ _ _ _ c.loop-row.invariant.none none refl })

pub returns : goal.returns
unfolding marker_faults
returns c = rw (← all_given 4 (length c.loop-row.yielded) (omega arith) c.loop-row.invariant.left c.next.new.self c.in-None.ensures.steps) c.loop-row.invariant.none
