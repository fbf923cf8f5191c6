-- `diin::diin_data` meets its contract. The loop's invariant: the first chunks of the order are appended. Assumes nothing.
use lib.ListN.{take}
use Rattle.chunk.specs.Append.{Appended}
use Rattle.tree.specs.Tree.{bytes, each}
use Rattle.master_info.specs.Diin.{info_chunk}
use Rattle.master_info.proofs.diin.diin_data.Given as goal

abbrev pub invariant-loop-part : goal.invariant-loop-part
invariant-loop-part l = let f = info_chunk l.given.pools.text.now l.given.pools.bytes.now l.given.tracks.now l.given.markers.now l.info in
    Appended l.initial.out l.initial.c.at (bytes (each f (take l.part-index l.part-items))) l.out l.c.at
