-- What a reader is told of PROP: the values of its chunks. Assumes nothing.
use mathlib.Core.Path.{◌≡◌, refl}
use mathlib.Core.Bool.{Bool}
use mathlib.Core.List.{List}
use Prim.Native.Nat.{ℕ, ◌^◌, ◌<◌}
use native.Mathlib.Omega.{arith}
use lib.ListN.{length}
use Rattle.chunk_names.specs.Name.{Name, ascii, same}
use Rattle.chunk.specs.Chunk.{counts}
use Rattle.tree.specs.Value.{value}
use Rattle.chunk_names.specs.declared.PropertyChunk.{PropertyChunk}
use Rattle.chunk_names.specs.declared.PropertyChunk.TheVariants.{SampleRate, Channels, CompressionType, AbsoluteStartTime, LoudspeakerConfiguration}
use Rattle.tree.proofs.ValueLaws.{counted-text}
use Rattle.prop_fields.specs.declared.compression.Sound.{Sound}
use Rattle.prop_fields.specs.declared.compression.Sound.TheVariants.{Dsd, Dst}
use Rattle.prop_fields.specs.Compression.{compression_data, cmpr_data}
use Rattle.prop.specs.declared.property.Properties.{Properties}
use Rattle.prop.specs.Property.{id_of, content_of, is_property_written, property_chunk}
use Rattle.file_reports.specs.Values.{compression_value, property_value, property_told}
use Rattle.file_reports.proofs.ReportLaws.{Tells, stop_tells, leaf_tells, if-tells}

-- CMPR, with the pad in the data and without it
compression-value : (kind : Name) (name : List ℕ) (d1 : Bool) → length kind ≡ 4 → length name < 256 ^ 1
    → value (ascii "PROP") (ascii "CMPR") (compression_data kind name d1) ≡ counts 1 kind name
unfolding value same compression_data
compression-value kind name d1 four small = counted-text 1 kind name _ 4 four small

cmpr_value_lem : (s : Sound) (d1 : Bool) → value (ascii "PROP") (ascii "CMPR") (cmpr_data s d1) ≡ compression_value s
cmpr_value_lem Dsd d1 = compression-value (ascii "DSD ") (ascii "not compressed") d1 refl (omega arith)
cmpr_value_lem Dst d1 = compression-value (ascii "DST ") (ascii "DST Encoded") d1 refl (omega arith)

-- the other chunks have no pad in their data
property-value : (p : Properties) (part : PropertyChunk) → value (ascii "PROP") (id_of part) (content_of p part) ≡ property_value p part
unfolding value same property_value
property-value p SampleRate = refl
property-value p Channels = refl
property-value p CompressionType = cmpr_value_lem p.sound p.d1
property-value p AbsoluteStartTime = refl
property-value p LoudspeakerConfiguration = refl

pub property_tells : (known : Name → Name → Bool) (p : Properties) (part : PropertyChunk) → Tells known (ascii "PROP") (property_chunk p part) (property_told p part)
unfolding property_chunk property_told
property_tells known p part = if-tells (is_property_written p part) (λ written. leaf_tells (property-value p part) stop_tells)
