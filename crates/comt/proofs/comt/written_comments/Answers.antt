-- The goals that a check leaves.
use mathlib.Core.Path.{◌≡◌}
use mathlib.Core.List.{append_assoc, append-nil, ◌++◌, [], flat_map}
use borrow.Author.Rules.{rules}
use lib.ListN.{length}
use Rattle.std.specs.Slice.Iter.{chunks_exact_rest}
use Rattle.chunk.proofs.AppendLaws.{◌then◌, none}
use Rattle.chunk.proofs.ListLaws.{flat_map-append, flat_map-one}
use Rattle.comt.specs.Comment.{written_comments}
use Rattle.comt.proofs.CommentLaws.{comments_front, comments_none}
use Rattle.comt.proofs.comt.written_comments.Goals as goal

pub loop-row-init : goal.loop-row-init
unfolding flat_map
loop-row-init c = record { size = search rules; rest = search rules; written = none (search rules) (search rules) }

pub loop-row-preserved : goal.loop-row-preserved
loop-row-preserved c =
    let rest = chunks_exact_rest c.next.new.self in
    let row = c.in-Some.row.now in
    let nine : length row ≡ 9 = search rules in
    let joined : chunks_exact_rest c.loop-row.row-iterator ≡ row ++ rest = search rules in
    let next = rw (← joined) at (comments_front c.args.pool.now c.args.options row rest nine) in
    let added = rw c.comment_of.ensures at c.written_comment-c.ensures in
    record {
      size = search rules;
      rest = rw (flat_map-append, flat_map-one, append_assoc, ← next) c.loop-row.invariant.rest;
      written = rw (flat_map-append, flat_map-one, flat_map-append) (c.loop-row.invariant.written then added);
    }

pub returns : goal.returns
returns c =
    let end : written_comments c.args.pool.now (chunks_exact_rest c.loop-row.row-iterator) c.args.options ≡ [] = comments_none c.args.pool.now c.args.options _ (search rules) in
    rw (c.loop-row.invariant.rest, end, append-nil) c.loop-row.invariant.written
