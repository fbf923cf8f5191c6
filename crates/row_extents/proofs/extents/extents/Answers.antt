-- The goals that a check leaves.
use mathlib.Core.Path.{◌≡◌, refl, ap, ◌∙◌}
use borrow.Author.Rules.{rules}
use lib.ListN.{length, length-append}
use Rattle.rows.specs.Row.{width, extent_at, extent_of, count_of_rows}
use Rattle.row_extents.specs.Extents.{is_long, is_outside, too_large, outside_pool}
use Rattle.refusal.proofs.BelowLaws.{below_none, below_more}
use Rattle.rows.proofs.RowLaws.{none_given, row_given, all_given, row_alone, some_width}
use Rattle.row_extents.proofs.extents.extents.Goals as goal

pub loop-row-init : goal.loop-row-init
loop-row-init c = record { left = none_given (width c.args.kind) (search rules) (search rules); long = below_none _ _ _; outside = below_none _ _ _ }

pub loop-row-preserved : goal.loop-row-preserved
loop-row-preserved c =
    let w = width c.args.kind in
    let k = length c.loop-row.yielded in
    let next = row_given w k (some_width c.args.kind) c.loop-row.invariant.left c.in-Some.row c.next.new.self c.in-Some.ensures.steps in
    let extent-is : c.extent_at-e.result ≡ extent_at c.args.kind c.args.rows.now k =
    rw c.width-w.ensures at c.extent_at-e.ensures ∙ ap (extent_of w) (row_alone w c.args.rows.now k next.0) in
    rw length-append
    (record {
      left = next.2;
      long = below_more _ _ _ _ c.loop-row.invariant.long (ap (is_long _) extent-is) refl;
      outside = below_more _ _ _ _ c.loop-row.invariant.outside (ap (is_outside _) extent-is) refl;
    })

pub returns : goal.returns
unfolding too_large outside_pool
returns c =
    let all : length c.loop-row.yielded ≡ count_of_rows c.args.kind c.args.rows.now =
    all_given (width c.args.kind) (length c.loop-row.yielded) (some_width c.args.kind) c.loop-row.invariant.left c.next.new.self c.in-None.ensures.steps in
    let all-long = rw all at c.loop-row.invariant.long in
    let all-outside = rw all at c.loop-row.invariant.outside in
    record { too_large_value = cc; outside_value = cc }
