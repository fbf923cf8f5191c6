-- The figures of document 01 of PROP, worked out by the definitions. Assumes nothing.
use mathlib.Core.Path.{◌≡◌, refl}
use mathlib.Core.Bool.{Bool, true, false}
use mathlib.Core.List.{[], ◌∷◌, ◌++◌, flat_map}
use lib.ListN.{length, take}
use Rattle.chunk.specs.Number.{be}
use Rattle.chunk_names.specs.Name.{ascii, property_order}
use Rattle.chunk.specs.Chunk.{pad, chunk, counts}
use Rattle.tree.specs.Tree.{bytes, join, each}
use Rattle.chunk_names.specs.declared.PropertyChunk.{PropertyChunk}
use Rattle.chunk_names.specs.declared.PropertyChunk.TheVariants.{SampleRate, Channels, CompressionType, AbsoluteStartTime, LoudspeakerConfiguration}
use Rattle.prop_fields.specs.Layout.{channel_names}
use Rattle.prop_fields.specs.Compression.{compression_data, cmpr_data}
use Rattle.prop.specs.Property.{chnl_data, content_of, property_chunk, property_chunks, property}
use Rattle.prop_fields.specs.declared.compression.Sound.TheVariants.{Dsd, Dst}
use Rattle.prop_fields.specs.declared.layout.ChannelNumbers.{ChannelNumbers}
use Rattle.prop_fields.specs.declared.layout.Layout.TheVariants.{Stereo, Unspecified}
use Rattle.prop.specs.declared.property.Properties.{Properties}
use Rattle.std.specs.Prelude.{Option, None, Some}

-- no numbers given, and the numbers 5, 120, 999
no_numbers : Option ChannelNumbers
no_numbers = None

three-numbers : Option ChannelNumbers
three-numbers = Some (record { count = 3; numbers = 5 ∷ 120 ∷ 999 ∷ 0 ∷ 0 ∷ 0 ∷ [] })

-- the names of three channels of an unspecified layout, by default and with given numbers
default_names : channel_names Unspecified 3 no_numbers ≡ ascii "C000" ∷ ascii "C001" ∷ ascii "C002" ∷ []
unfolding no_numbers
default_names = refl

given_names_lem : channel_names Unspecified 3 three-numbers ≡ ascii "C005" ∷ ascii "C120" ∷ ascii "C999" ∷ []
unfolding three-numbers
given_names_lem = refl

-- stereo DSD by default
stereo-dsd : Bool → Properties
stereo-dsd d1 = record {
  sound = Dsd;
  layout = Stereo;
  channels = 2;
  numbers = no_numbers;
  start = None;
  loudspeaker_configuration = true;
  unspecified_loudspeaker_configuration = false;
  d1 = d1;
}

-- PROP's data has 88 bytes, with D1 and without, which its size field tells
data_size_lem : (d1 : Bool) → length (ascii "SND " ++ bytes (property_chunks property_order (stereo-dsd d1))) ≡ 88
unfolding stereo-dsd property_chunk chnl_data compression_data counts bytes join each flat_map chunk be pad
data_size_lem true = refl
data_size_lem false = refl

size_field : (d1 : Bool) → take 12 (bytes (property property_order (stereo-dsd d1))) ≡ ascii "PROP" ++ (0 ∷ 0 ∷ 0 ∷ 0 ∷ 0 ∷ 0 ∷ 0 ∷ 88 ∷ [])
unfolding property bytes chunk be
size_field d1 = rw (data_size_lem d1)

-- CMPR has 19 bytes, with D1 20, and no other chunk differs
cmpr_size_lem : length (content_of (stereo-dsd false) CompressionType) ≡ 19
unfolding stereo-dsd compression_data counts be
cmpr_size_lem = refl

cmpr_size_d1 : length (content_of (stereo-dsd true) CompressionType) ≡ 20
unfolding stereo-dsd compression_data counts be pad
cmpr_size_d1 = refl

same-content : (part : PropertyChunk) → (part ≡ CompressionType → ⊥) → content_of (stereo-dsd true) part ≡ content_of (stereo-dsd false) part
unfolding stereo-dsd
same-content SampleRate other = refl
same-content Channels other = refl
same-content CompressionType other = absurd (other refl)
same-content AbsoluteStartTime other = refl
same-content LoudspeakerConfiguration other = refl

-- the CMPR of DST has 16 bytes, with D1 and without
dst_cmpr_size : (d1 : Bool) → length (cmpr_data Dst d1) ≡ 16
unfolding compression_data counts be pad
dst_cmpr_size true = refl
dst_cmpr_size false = refl
