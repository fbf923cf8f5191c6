-- The goals that a check leaves.
use mathlib.Core.Path.{◌≡◌}
use mathlib.Core.List.{append_assoc, append-nil, ◌++◌, []}
use borrow.Author.Rules.{rules}
use lib.ListN.{length}
use Rattle.std.proofs.lemmas.List.{map-append}
use Rattle.std.specs.Slice.Iter.{chunks_exact_rest}
use Rattle.tree.specs.Tree.{bytes, each}
use Rattle.chunk.proofs.AppendLaws.{◌then◌, none}
use Rattle.tree.proofs.TreeLaws.{bytes-each-append, bytes-each-one}
use Rattle.markers.specs.Custom.{customs}
use Rattle.markers.proofs.CustomLaws.{customs_next, customs_none}
use Rattle.markers.proofs.custom.custom.Goals as goal

pub loop-row-init : goal.loop-row-init
unfolding bytes each
loop-row-init c = record { size = search rules; rest = search rules; written = none (search rules) (search rules) }

pub loop-row-preserved : goal.loop-row-preserved
loop-row-preserved c =
    let rest = chunks_exact_rest c.next.new.self in
    let row = c.in-Some.row.now in
    let four : length row ≡ 4 = search rules in
    let joined : chunks_exact_rest c.loop-row.row-iterator ≡ row ++ rest = search rules in
    let next = rw (← joined) at (customs_next row rest four) in
    record {
      size = search rules;
      rest = rw (map-append, append_assoc, ← next) c.loop-row.invariant.rest;
      written = rw (map-append, bytes-each-append, bytes-each-one) (c.loop-row.invariant.written then rw c.custom_of.ensures at c.mark-c.ensures);
    }

pub returns : goal.returns
returns c = let end : customs (chunks_exact_rest c.loop-row.row-iterator) ≡ [] = customs_none _ (search rules) in
    rw (c.loop-row.invariant.rest, end, append-nil) c.loop-row.invariant.written
