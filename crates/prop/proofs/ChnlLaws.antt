-- The laws of CHNL. Assumes nothing.
use mathlib.Core.Path.{◌≡◌}
use mathlib.Core.List.{List, ◌++◌, flat_map}
use Prim.Native.Nat.{ℕ, ◌≤◌}
use native.Mathlib.Omega.{arith}
use lib.ListN.{length, take, length-append}
use lib.Seq.{length-take-le}
use Rattle.chunk.specs.Number.{be}
use Rattle.chunk_names.specs.Name.{Name}
use Rattle.chunk.proofs.NumberLaws.{length-be}
use Rattle.prop_fields.specs.Layout.{channel_names}
use Rattle.prop.specs.Property.{chnl_data}
use Rattle.prop_fields.specs.declared.layout.Layout.{Layout}
use Rattle.prop_fields.specs.declared.layout.ChannelNumbers.{ChannelNumbers}
use Rattle.std.specs.Prelude.{Option}
use Rattle.prop_fields.proofs.LayoutLaws.{names_short}

-- CHNL's count is that of the names
pub chnl_count : (count : ℕ) (names : List Name) → count ≤ length names
    → be 2 count ++ flat_map (λ (name : Name). name) (take count names) ≡ chnl_data (take count names)
unfolding chnl_data
chnl_count count names enough = rw (length-take-le count names enough)

pub chnl_short : (layout : Layout) (channels : ℕ) (n : Option ChannelNumbers) → length (chnl_data (channel_names layout channels n)) ≤ 26
unfolding chnl_data
chnl_short layout channels n = simp (length-append, length-be) (omega (arith, names_short layout channels n))
