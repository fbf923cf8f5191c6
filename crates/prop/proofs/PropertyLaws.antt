-- The laws of PROP and its chunks. Assumes nothing.
use mathlib.Core.Path.{◌≡◌, refl, ap}
use mathlib.Core.Bool.{Bool, true, false}
use mathlib.Core.List.{List, [], ◌++◌}
use Prim.Native.Nat.{ℕ, ◌≤◌}
use native.Mathlib.Omega.{arith}
use lib.ListN.{length, length-append}
use Rattle.chunk.specs.Number.{be}
use Rattle.chunk_names.specs.Name.{ascii, same}
use Rattle.chunk.specs.Chunk.{pad, chunk, occupied, counts}
use Rattle.frame_time.specs.Time.{time_of, time_bytes}
use Rattle.tree.specs.Tree.{bytes}
use Rattle.tree.specs.Value.{value}
use Rattle.chunk_names.specs.declared.PropertyChunk.{PropertyChunk}
use Rattle.chunk_names.specs.declared.PropertyChunk.TheVariants.{SampleRate, Channels, CompressionType, AbsoluteStartTime, LoudspeakerConfiguration}
use Rattle.frame_time.specs.declared.time.FrameTime.{FrameTime}
use Rattle.chunk.proofs.NumberLaws.{length-be}
use Rattle.chunk.proofs.ChunkLaws.{length-chunk}
use Rattle.chunk.proofs.ListLaws.{flat_map-bound}
use Rattle.tree.proofs.TreeLaws.{bytes-leaf, bytes-each}
use Rattle.tree.proofs.ValueLaws.{counted-text}
use Rattle.prop_fields.specs.Layout.{speaker_code}
use Rattle.prop_fields.specs.Start.{start_frame}
use Rattle.prop_fields.specs.Compression.{compression_data, cmpr_data}
use Rattle.prop.specs.Property.{sample_rate, id_of, content_of, is_property_written, property_chunk, property_chunks}
use Rattle.prop_fields.specs.declared.compression.Sound.{Sound}
use Rattle.prop_fields.specs.declared.compression.Sound.TheVariants.{Dsd, Dst}
use Rattle.prop.specs.declared.property.Properties.{Properties}
use Rattle.prop.proofs.ChnlLaws.{chnl_short}

-- the data of CMPR has at most 20 bytes
cmpr_short : (sound : Sound) (d1 : Bool) → length (cmpr_data sound d1) ≤ 20
unfolding compression_data counts be pad
cmpr_short Dsd true = omega arith
cmpr_short Dsd false = omega arith
cmpr_short Dst true = omega arith
cmpr_short Dst false = omega arith

time_short : (t : FrameTime) → length (time_bytes t) ≡ 8
unfolding time_bytes
time_short t = simp (length-append, length-be)

module _ (p : Properties) where
  pub content-short : (part : PropertyChunk) → length (content_of p part) ≤ 26
  content-short SampleRate = omega (arith, length-be 4 sample_rate)
  content-short Channels = chnl_short p.layout p.channels p.numbers
  content-short CompressionType = omega (arith, cmpr_short p.sound p.d1)
  content-short AbsoluteStartTime = omega (arith, time_short (time_of (start_frame p.start)))
  content-short LoudspeakerConfiguration = omega (arith, length-be 2 (speaker_code p.layout))

  -- a chunk of PROP, if it is written
  pub chunk-written : (part : PropertyChunk) → is_property_written p part ≡ true → bytes (property_chunk p part) ≡ chunk (id_of part) (content_of p part)
  unfolding property_chunk
  chunk-written part h = rw (h, bytes-leaf)

  pub chunk-left-out : (part : PropertyChunk) → is_property_written p part ≡ false → bytes (property_chunk p part) ≡ []
  unfolding property_chunk bytes
  chunk-left-out part h = rw h

  length-id : (part : PropertyChunk) → length (id_of part) ≡ 4
  length-id SampleRate = refl
  length-id Channels = refl
  length-id CompressionType = refl
  length-id AbsoluteStartTime = refl
  length-id LoudspeakerConfiguration = refl

  chunk-short : (part : PropertyChunk) → length (bytes (property_chunk p part)) ≤ 38
  unfolding occupied
  chunk-short part = go (is_property_written p part) refl
    where
      go : (b : Bool) → is_property_written p part ≡ b → length (bytes (property_chunk p part)) ≤ 38
      go true h = rw (chunk-written part h, length-chunk (id_of part) (content_of p part) (length-id part)) (omega (arith, content-short part))
      go false h = rw (chunk-left-out part h) (omega arith)

  -- the data of PROP
  pub property-short : (order : List PropertyChunk) → length order ≡ 5 → length (ascii "SND " ++ bytes (property_chunks order p)) ≤ 194
  property-short order five =
      omega (arith, flat_map-bound (λ part. bytes (property_chunk p part)) 38 chunk-short order, ap length (bytes-each (property_chunk p) order))

-- what a reader is to get of CMPR: the type, the count and the name, without the pad
abbrev pub cmpr_value : Sound → List ℕ
cmpr_value Dsd = counts 1 (ascii "DSD ") (ascii "not compressed")
cmpr_value Dst = counts 1 (ascii "DST ") (ascii "DST Encoded")

pub cmpr_value_lem : (sound : Sound) (d1 : Bool) → value (ascii "PROP") (ascii "CMPR") (cmpr_data sound d1) ≡ cmpr_value sound
unfolding value same compression_data
cmpr_value_lem Dsd d1 = counted-text 1 (ascii "DSD ") (ascii "not compressed") _ 4 refl (omega arith)
cmpr_value_lem Dst d1 = counted-text 1 (ascii "DST ") (ascii "DST Encoded") _ 4 refl (omega arith)
