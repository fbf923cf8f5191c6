-- The goals that a check leaves.
use mathlib.Core.Path.{◌≡◌, refl}
use mathlib.Core.List.{append_assoc, append-nil, ◌++◌, [], flat_map}
use Prim.Native.Nat.{◌/◌}
use native.Mathlib.Nat.{le_refl}
use native.Mathlib.Omega.{arith}
use borrow.Author.Rules.{rules}
use lib.ListN.{length, length-append}
use Rattle.std.specs.Slice.Iter.{chunks_exact_rest}
use Rattle.chunk.proofs.ListLaws.{flat_map-append, flat_map-one}
use Rattle.comt.specs.Comment.{written_comments}
use Rattle.comt.proofs.CommentLaws.{comments_front, comments_none, comments_all, comments-few}
use Rattle.comt.proofs.comt.comments_count.Goals as goal

pub loop-row-init : goal.loop-row-init
unfolding flat_map
loop-row-init c = record { size = search rules; rest = search rules; counted = refl }

pub loop-row-preserved : goal.loop-row-preserved
loop-row-preserved c =
    let rest = chunks_exact_rest c.next.new.self in
    let row = c.in-Some.row.now in
    let nine : length row ≡ 9 = search rules in
    let joined : chunks_exact_rest c.loop-row.row-iterator ≡ row ++ rest = search rules in
    let next = rw (← joined) at (comments_front c.args.pool.now c.args.options row rest nine) in
    let counted = rw c.comment_of.ensures at c.one_if_written-count.ensures in
    record {
      size = search rules;
      rest = rw (flat_map-append, flat_map-one, append_assoc, ← next) c.loop-row.invariant.rest;
      counted = rw (flat_map-append, flat_map-one, length-append) (omega (arith, counted, c.loop-row.invariant.counted));
    }

pub overflow_add-count : goal.overflow_add-count
overflow_add-count c =
    let rows = c.args.rows.now in
    let all = comments_all c.args.pool.now c.args.options rows (length rows / 9) (le_refl (length rows / 9)) in
    let few = rw all at (comments-few c.args.pool.now c.args.options rows (length rows / 9)) in
    let next = loop-row-preserved c in
    let sum = rw (next.rest, length-append) at few in
    omega (arith, sum, next.counted)

pub returns : goal.returns
returns c =
    let end : written_comments c.args.pool.now (chunks_exact_rest c.loop-row.row-iterator) c.args.options ≡ [] = comments_none c.args.pool.now c.args.options _ (search rules) in
    rw (c.loop-row.invariant.rest, end, append-nil) c.loop-row.invariant.counted
