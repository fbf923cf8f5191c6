-- The goals that a check leaves.
use borrow.Author.Rules.{rules}
use Rattle.tree.specs.Tree.{bytes, each}
use Rattle.chunk_names.specs.declared.InfoChunk.TheVariants.{EditedMasterId}
use Rattle.chunk.proofs.AppendLaws.{◌then◌, none}
use Rattle.tree.proofs.TreeLaws.{bytes-each-next}
use Rattle.master_info.specs.Diin.{info_chunk}
use Rattle.master_info.proofs.diin.diin_data.Goals as goal

pub loop-part-init : goal.loop-part-init
unfolding bytes each
loop-part-init c = none (search rules) (search rules)

pub loop-part-preserved : goal.loop-part-preserved
loop-part-preserved c =
    let given = c.args.given.now in
    let f = info_chunk given.pools.text.now given.pools.bytes.now given.tracks.now given.markers.now c.args.info in
    rw (bytes-each-next f c.args.order c.loop-part.part-index EditedMasterId (search rules)) (c.loop-part.invariant then c.info_chunk-c.ensures)
