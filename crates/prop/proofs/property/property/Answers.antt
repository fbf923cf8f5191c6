-- `property::property` meets its contract: a chunk whose size is filled in last. Assumes nothing.
use native.Mathlib.Omega.{arith}
use borrow.Author.Rules.{rules}
use Rattle.tree.proofs.TreeLaws.{bytes-node}
use Rattle.prop.specs.Property.{property}
use Rattle.prop.proofs.PropertyLaws.{property-short}
use Rattle.prop.proofs.property.property.Goals as goal

pub returns : goal.returns
unfolding property
returns c = rw bytes-node (c.chunk_of.ensures _ (omega (arith, property-short c.args.p c.args.order (search rules))) (search rules))
