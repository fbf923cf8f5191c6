-- The goals that a check leaves.
use mathlib.Core.Path.{◌≡◌, refl}
use mathlib.Core.List.{append_assoc, append-nil, ◌++◌, [], map, flat_map}
use borrow.Author.Rules.{rules}
use lib.ListN.{length}
use Rattle.std.proofs.lemmas.List.{map-append}
use Rattle.std.specs.Slice.Iter.{chunks_exact_rest}
use Rattle.tree.specs.Tree.{bytes, each}
use Rattle.chunk.proofs.AppendLaws.{◌then◌, none}
use Rattle.tree.proofs.TreeLaws.{bytes-each-cons, bytes-each-append}
use Rattle.track_markers.specs.Program.{program}
use Rattle.tracks.specs.Track.{span_of, spans, clipped}
use Rattle.track_markers.proofs.ProgramLaws.{opened, last_stop, opened-next, stop-next, track_markers_lem}
use Rattle.tracks.proofs.TrackLaws.{spans_front, spans_none, clipped-append, clipped-one}
use Rattle.track_markers.proofs.program.program.Goals as goal

pub loop-row-init : goal.loop-row-init
unfolding clipped flat_map opened last_stop bytes each
loop-row-init c = record { size = search rules; rest = search rules; stop = refl; written = none (search rules) (search rules) }

pub loop-row-preserved : goal.loop-row-preserved
loop-row-preserved c =
    let rest = chunks_exact_rest c.next.new.self in
    let row = c.in-Some.row.now in
    let four : length row ≡ 4 = search rules in
    let joined : chunks_exact_rest c.loop-row.row-iterator ≡ row ++ rest = search rules in
    let next = rw (← joined) at (spans_front row rest four) in
    let added = rw (c.clip-s.ensures, c.span_of.ensures, c.loop-row.invariant.stop) at c.add-done.ensures in
    record {
      size = search rules;
      rest = rw (map-append, append_assoc, ← next) c.loop-row.invariant.rest;
      stop = rw (map-append, clipped-append, clipped-one, stop-next) added.stop_value;
      written = rw (map-append, clipped-append, clipped-one, opened-next, bytes-each-append) (c.loop-row.invariant.written then added.appended);
    }

pub returns : goal.returns
unfolding program
returns c =
    let end : spans (chunks_exact_rest c.loop-row.row-iterator) ≡ [] = spans_none _ (search rules) in
    let all : spans c.args.tracks.now ≡ map (λ row. span_of row.now) c.loop-row.yielded = rw (c.loop-row.invariant.rest, end, append-nil) in
    rw (bytes-each-cons, track_markers_lem, bytes-each-append)
    ((rw c.plain-start.ensures at c.mark.ensures)
    then (rw (← all) at c.loop-row.invariant.written then (rw (c.loop-row.invariant.stop, ← all) at c.close.ensures)))
