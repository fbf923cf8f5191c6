-- The goals that a check leaves.
use mathlib.Core.Path.{◌≡◌}
use mathlib.Core.List.{append_assoc, append-nil, ◌++◌, [], map}
use borrow.Author.Rules.{rules}
use lib.ListN.{length}
use Rattle.std.proofs.lemmas.List.{map-append}
use Rattle.std.specs.Slice.Iter.{chunks_exact_rest}
use Rattle.tracks.specs.Track.{span_of, spans}
use Rattle.tracks.proofs.TrackLaws.{spans_front, spans_none}
use Rattle.tracks.proofs.OrderLaws.{passed_none, passed-next}
use Rattle.tracks.proofs.order.clipped_order.Goals as goal

pub loop-row-init : goal.loop-row-init
loop-row-init c = record { size = search rules; rest = search rules; known = passed_none c.args.first c.args.end }

pub loop-row-preserved : goal.loop-row-preserved
loop-row-preserved c =
    let rest = chunks_exact_rest c.next.new.self in
    let row = c.in-Some.row.now in
    let four : length row ≡ 4 = search rules in
    let joined : chunks_exact_rest c.loop-row.row-iterator ≡ row ++ rest = search rules in
    let next = rw (← joined) at (spans_front row rest four) in
    let one = rw c.span_of.ensures at c.clip.ensures in
    record {
      size = search rules;
      rest = rw (map-append, append_assoc, ← next) c.loop-row.invariant.rest;
      known = rw (map-append, c.add-o.ensures, one) (passed-next c.args.first c.args.end (map (λ r. span_of r.now) c.loop-row.yielded) (span_of row) c.loop-row.invariant.known);
    }

pub returns : goal.returns
returns c =
    let end : spans (chunks_exact_rest c.loop-row.row-iterator) ≡ [] = spans_none _ (search rules) in
    let whole : spans c.args.tracks.now ≡ map (λ row. span_of row.now) c.loop-row.yielded = rw (c.loop-row.invariant.rest, end, append-nil) in
    let all = rw (← whole) at c.loop-row.invariant.known in
    record { left_value = all.left; whole_value = all.whole; ordered_value = all.ordered; end_value = all.end }
