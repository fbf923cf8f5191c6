-- PROP (01: "PROP is "SND " then, in property order: FS 2,822,400 (u32); CHNL count (u16) and names; CMPR type, one length byte, name; ABSS if a start is
-- given; LSCO (u16) if on"; "unspecified 65,535 under its own switch"). Assumes nothing.
use Rattle.std.specs.Prelude.{ℕ, Bool, true, cond, length}
use mathlib.Core.List.{List, ◌++◌, flat_map}
use Rattle.chunk.specs.Number.{be}
use Rattle.chunk_names.specs.Name.{Name, ascii}
use Rattle.frame_time.specs.Time.{time_of, time_bytes}
use Rattle.tree.specs.Tree.{Chunks, stop, leaf, node, each}
use Rattle.chunk_names.specs.declared.PropertyChunk.{PropertyChunk}
use Rattle.chunk_names.specs.declared.PropertyChunk.TheVariants.{SampleRate, Channels, CompressionType, AbsoluteStartTime, LoudspeakerConfiguration}
use Rattle.prop_fields.specs.declared.layout.Layout.{Layout}
use Rattle.prop_fields.specs.declared.layout.Layout.TheVariants.{Stereo, ThreeTwo, FivePointOne, Unspecified}
use Rattle.prop.specs.declared.property.Properties.{Properties}
use Rattle.prop_fields.specs.Layout.{channel_names, speaker_code}
use Rattle.prop_fields.specs.Compression.{cmpr_data}
use Rattle.prop_fields.specs.Start.{is_given, start_frame}

-- samples a second
abbrev pub sample_rate : ℕ
sample_rate = 2_822_400

-- the data of CHNL: how many names, and the names
unfoldable pub chnl_data : List Name → List ℕ
chnl_data names = be 2 (length names) ++ flat_map (λ (name : Name). name) names

-- whether LSCO is on: the switch of an unspecified layout is its own
abbrev pub lsco_switch : Layout → Bool → Bool → Bool
lsco_switch Stereo on unspecifiedOn = on
lsco_switch ThreeTwo on unspecifiedOn = on
lsco_switch FivePointOne on unspecifiedOn = on
lsco_switch Unspecified on unspecifiedOn = unspecifiedOn

abbrev pub lsco_is_on : Properties → Bool
lsco_is_on p = lsco_switch p.layout p.loudspeaker_configuration p.unspecified_loudspeaker_configuration

-- the name of a chunk of PROP
abbrev pub id_of : PropertyChunk → Name
id_of SampleRate = ascii "FS  "
id_of Channels = ascii "CHNL"
id_of CompressionType = ascii "CMPR"
id_of AbsoluteStartTime = ascii "ABSS"
id_of LoudspeakerConfiguration = ascii "LSCO"

-- its data
abbrev pub content_of : Properties → PropertyChunk → List ℕ
content_of p SampleRate = be 4 sample_rate
content_of p Channels = chnl_data (channel_names p.layout p.channels p.numbers)
content_of p CompressionType = cmpr_data p.sound p.d1
content_of p AbsoluteStartTime = time_bytes (time_of (start_frame p.start))
content_of p LoudspeakerConfiguration = be 2 (speaker_code p.layout)

-- whether it is written
abbrev pub is_property_written : Properties → PropertyChunk → Bool
is_property_written p SampleRate = true
is_property_written p Channels = true
is_property_written p CompressionType = true
is_property_written p AbsoluteStartTime = is_given p.start
is_property_written p LoudspeakerConfiguration = lsco_is_on p

unfoldable pub property_chunk : Properties → PropertyChunk → Chunks
property_chunk p part = cond (is_property_written p part) (leaf (id_of part) (content_of p part) stop) stop

-- the chunks of PROP, in the given order
abbrev pub property_chunks : List PropertyChunk → Properties → Chunks
property_chunks order p = each (property_chunk p) order

-- PROP
unfoldable pub property : List PropertyChunk → Properties → Chunks
property order p = node (ascii "PROP") (ascii "SND ") (property_chunks order p) stop
