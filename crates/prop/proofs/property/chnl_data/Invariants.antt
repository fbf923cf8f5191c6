-- `property::chnl_data` meets its contract. The loop's invariant: the first names are appended. Assumes nothing.
use mathlib.Core.List.{flat_map}
use lib.ListN.{take}
use Rattle.chunk.specs.Append.{Appended}
use Rattle.chunk_names.specs.Name.{Name}
use Rattle.prop.proofs.property.chnl_data.Given as goal

abbrev pub invariant-loop-name : goal.invariant-loop-name
invariant-loop-name l = Appended l.initial.out l.initial.c.at (flat_map (λ (name : Name). name) (take l.name-index l.name-items)) l.out l.c.at
