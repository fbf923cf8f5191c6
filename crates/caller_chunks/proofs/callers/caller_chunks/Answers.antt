-- The goals that a check leaves.
use mathlib.Core.Path.{◌≡◌}
use mathlib.Core.List.{append_assoc, append-nil, ◌++◌, [], flat_map}
use borrow.Author.Rules.{rules}
use lib.ListN.{length}
use Rattle.std.specs.Slice.Iter.{chunks_exact_rest}
use Rattle.chunk.proofs.AppendLaws.{◌then◌, none}
use Rattle.chunk.proofs.ListLaws.{flat_map-append, flat_map-one}
use Rattle.tree.specs.Tree.{bytes}
use Rattle.caller_chunks.specs.Caller.{caller_chunks}
use Rattle.caller_chunks.proofs.CallerLaws.{callers_front, callers_none}
use Rattle.caller_chunks.proofs.callers.caller_chunks.Goals as goal

pub loop-row-init : goal.loop-row-init
unfolding flat_map
loop-row-init c = record { size = search rules; rest = search rules; written = none (search rules) (search rules) }

pub loop-row-preserved : goal.loop-row-preserved
loop-row-preserved c =
    let rest = chunks_exact_rest c.next.new.self in
    let row = c.in-Some.row.now in
    let three : length row ≡ 3 = search rules in
    let joined : chunks_exact_rest c.loop-row.row-iterator ≡ row ++ rest = search rules in
    let next = rw (← joined) at (callers_front c.args.raw.now row rest three) in
    record {
      size = search rules;
      rest = rw (flat_map-append, flat_map-one, append_assoc, ← next) c.loop-row.invariant.rest;
      written = rw (flat_map-append, flat_map-one) (c.loop-row.invariant.written then c.caller_chunk-c.ensures);
    }

pub returns : goal.returns
returns c =
    let end : bytes (caller_chunks c.args.raw.now (chunks_exact_rest c.loop-row.row-iterator)) ≡ [] = callers_none c.args.raw.now _ (search rules) in
    rw (c.loop-row.invariant.rest, end, append-nil) c.loop-row.invariant.written
