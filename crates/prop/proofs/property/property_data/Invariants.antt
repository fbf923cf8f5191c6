-- `property::property_data` meets its contract. The loop's invariant: the first chunks of the order are appended. Assumes nothing.
use lib.ListN.{take}
use Rattle.chunk.specs.Append.{Appended}
use Rattle.tree.specs.Tree.{bytes, each}
use Rattle.prop.specs.Property.{property_chunk}
use Rattle.prop.proofs.property.property_data.Given as goal

abbrev pub invariant-loop-part : goal.invariant-loop-part
invariant-loop-part l = Appended l.initial.out l.initial.c.at (bytes (each (property_chunk l.p) (take l.part-index l.part-items))) l.out l.c.at
