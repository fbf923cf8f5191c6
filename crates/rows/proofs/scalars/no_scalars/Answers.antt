-- The goals that a check leaves.
use mathlib.Core.Path.{◌∙◌}
use Prim.Native.Nat.{◌/◌, ◌<◌}
use lib.ListN.{length}
use Rattle.std.proofs.Common.{rules, tests}
use Rattle.std.specs.List.{range_with_len}
use Rattle.std.proofs.lemmas.Iterator.Search.{any_from_yields_List}
use Rattle.texts.specs.Extent.{part}
use Rattle.rows.specs.Row.{row_at, extent_of}
use Rattle.rows.specs.Scalars.{has_no_scalar, no_scalars}
use Rattle.refusal.proofs.AnyLaws.{any-range}
use Rattle.rows.proofs.RowLaws.{rows_come, some_width, any-map}
use Rattle.rows.proofs.scalars.no_scalars.Goals as goal

pub returns : goal.returns
unfolding no_scalars
returns c =
    let w = c.width-w.result in
    let words = c.args.rows.now in
    let some : 0 < w = rw c.width-w.ensures (some_width c.args.kind) in
    rw (← c.width-w.ensures)
    (any_from_yields_List (λ row. has_no_scalar (part c.args.pool.now (extent_of w row))) _ _ _ c.any.ensures.ran
    (rows_come w words some c.chunks_exact.ensures.size c.chunks_exact.ensures.rest) (λ x b q k. search (rules, tests))
    ∙ any-map (λ row. has_no_scalar (part c.args.pool.now (extent_of w row))) (row_at w words) (range_with_len 0 (length words / w))
    ∙ any-range _ _)
