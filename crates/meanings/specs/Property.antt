-- What the numbers of PROP mean. Assumes nothing.
use Rattle.prop_fields.specs.Start.{Start}
use Rattle.std.specs.Prelude.{None, Some, ℕ, Bool, cond, List, map, eqb}
use Rattle.chunk_names.specs.declared.PropertyChunk.{PropertyChunk}
use Rattle.chunk_names.specs.declared.PropertyChunk.TheVariants.{SampleRate, Channels, CompressionType, AbsoluteStartTime, LoudspeakerConfiguration}
use Rattle.prop_fields.specs.declared.compression.Sound.{Sound}
use Rattle.prop_fields.specs.declared.compression.Sound.TheVariants.{Dsd, Dst}
use Rattle.prop_fields.specs.declared.layout.Layout.{Layout}
use Rattle.prop_fields.specs.declared.layout.Layout.TheVariants.{Stereo, ThreeTwo, FivePointOne, Unspecified}

abbrev pub sound_of : Bool → Sound
sound_of dst = cond dst Dst Dsd

-- 0 is stereo, 1 is 3/2, 2 is 5.1, any other is unspecified
abbrev pub layout_of : ℕ → Layout
layout_of number = cond (eqb number 0) Stereo (cond (eqb number 1) ThreeTwo (cond (eqb number 2) FivePointOne Unspecified))

-- a start, if it is given
abbrev pub start_of : Bool → ℕ → Start
start_of given frame = cond given (Some frame) None

-- 0 is FS, 1 is CHNL, 2 is CMPR, 3 is ABSS, any other is LSCO
abbrev pub property_chunk_of : ℕ → PropertyChunk
property_chunk_of number =
    cond (eqb number 0) SampleRate
    (cond (eqb number 1) Channels (cond (eqb number 2) CompressionType (cond (eqb number 3) AbsoluteStartTime LoudspeakerConfiguration)))

abbrev pub property_order_of : List ℕ → List PropertyChunk
property_order_of numbers = map property_chunk_of numbers
