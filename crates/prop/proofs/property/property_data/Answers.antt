-- The goals that a check leaves.
use borrow.Author.Rules.{rules}
use lib.Seq.{take_all}
use Rattle.tree.specs.Tree.{bytes, each}
use Rattle.chunk_names.specs.declared.PropertyChunk.TheVariants.{SampleRate}
use Rattle.chunk.proofs.AppendLaws.{◌then◌, none}
use Rattle.tree.proofs.TreeLaws.{bytes-each-next}
use Rattle.prop.specs.Property.{property_chunk}
use Rattle.prop.proofs.property.property_data.Goals as goal

pub loop-part-init : goal.loop-part-init
unfolding bytes each
loop-part-init c = none (search rules) (search rules)

pub loop-part-preserved : goal.loop-part-preserved
loop-part-preserved c =
    rw (bytes-each-next (property_chunk c.args.p) c.args.order c.loop-part.part-index SampleRate (search rules))
    (c.loop-part.invariant then c.property_chunk-c.ensures)

pub returns : goal.returns
returns c = c.name-c.ensures then rw (take_all c.loop-part.part-index c.args.order (search rules)) at c.loop-part.invariant
