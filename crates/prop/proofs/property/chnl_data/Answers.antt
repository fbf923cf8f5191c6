-- The goals that a check leaves.
use mathlib.Core.List.{[], flat_map}
use native.Mathlib.Numerals.{add-one}
use borrow.Author.Rules.{rules}
use lib.ListN.{take}
use lib.Seq.{take_all}
use Rattle.chunk_names.specs.Name.{Name}
use Rattle.chunk.proofs.AppendLaws.{◌then◌, none}
use Rattle.chunk.proofs.ListLaws.{flat_map-take}
use Rattle.prop.proofs.property.chnl_data.Goals as goal

pub loop-name-init : goal.loop-name-init
unfolding flat_map
loop-name-init c = none (search rules) (search rules)

pub loop-name-preserved : goal.loop-name-preserved
loop-name-preserved c =
    rw (add-one, flat_map-take (λ (name : Name). name) (take c.args.count c.args.names) c.loop-name.name-index [] c.loop-name-test.true)
    (c.loop-name.invariant then c.name-c.ensures)

pub returns : goal.returns
returns c = c.be16-c.ensures then rw (take_all c.loop-name.name-index (take c.args.count c.args.names) (search rules)) at c.loop-name.invariant
