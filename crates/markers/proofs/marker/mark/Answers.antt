-- `marker::mark` meets its contract: a chunk whose size is filled in last. Assumes nothing.
use native.Mathlib.Omega.{arith}
use borrow.Author.Rules.{rules}
use Rattle.chunk.specs.Chunk.{counts}
use Rattle.tree.proofs.TreeLaws.{bytes-leaf}
use Rattle.markers.specs.Marker.{mark, mark_data, marker_text}
use Rattle.markers.proofs.MarkerLaws.{length-mark_data}
use Rattle.markers.proofs.marker.mark.Goals as goal

pub returns : goal.returns
unfolding mark mark_data counts
returns c = let text = marker_text c.args.pools.now.text.now c.args.pools.now.bytes.now c.args.how.text.rule c.args.m.text in
    rw (bytes-leaf)
    (c.chunk_of.ensures _ (omega (arith, c.marker_text_count-count.ensures, length-mark_data c.args.how c.args.m text))
    (rw (← c.marker_text_count-count.ensures) (search rules)))
