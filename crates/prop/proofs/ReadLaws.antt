-- What the old reader gets of PROP: its chunks have the shape that it walks. Assumes nothing.
use mathlib.Core.Path.{refl}
use mathlib.Core.Bool.{Bool}
use mathlib.Core.List.{List}
use Prim.Native.Nat.{ℕ}
use Rattle.chunk_names.specs.Name.{Name, ascii, same}
use Rattle.tree.specs.Tree.{stop, leaf}
use Rattle.tree.specs.Reader.{Shaped}
use Rattle.tree.specs.Value.{inner, dsdiff}
use Rattle.chunk_names.specs.declared.PropertyChunk.{PropertyChunk}
use Rattle.chunk_names.specs.declared.PropertyChunk.TheVariants.{SampleRate, Channels, CompressionType, AbsoluteStartTime, LoudspeakerConfiguration}
use Rattle.tree.proofs.TreeLaws.{shaped_each, shaped_if}
use Rattle.prop.specs.Property.{id_of, content_of, is_property_written, property_chunk, property}
use Rattle.prop.specs.declared.property.Properties.{Properties}

module _ (known : Name → Name → Bool) where
  id_shaped : (part : PropertyChunk) (content : List ℕ) → Shaped (dsdiff known) (ascii "PROP") (leaf (id_of part) content stop)
  unfolding inner same
  id_shaped SampleRate content = (refl, refl, tt)
  id_shaped Channels content = (refl, refl, tt)
  id_shaped CompressionType content = (refl, refl, tt)
  id_shaped AbsoluteStartTime content = (refl, refl, tt)
  id_shaped LoudspeakerConfiguration content = (refl, refl, tt)

  chunk_shaped : (p : Properties) (part : PropertyChunk) → Shaped (dsdiff known) (ascii "PROP") (property_chunk p part)
  unfolding property_chunk
  chunk_shaped p part = shaped_if (dsdiff known) (ascii "PROP") (is_property_written p part) (leaf (id_of part) (content_of p part) stop) (id_shaped part (content_of p part))

  pub property_shaped : (order : List PropertyChunk) (p : Properties) → Shaped (dsdiff known) (ascii "FRM8") (property order p)
  unfolding property inner same
  property_shaped order p = (refl, refl, shaped_each (dsdiff known) (ascii "PROP") (property_chunk p) (chunk_shaped p) order, tt)
