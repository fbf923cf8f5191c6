-- A chunk that PROP always has is among the reports once. Assumes nothing.
use mathlib.Core.Path.{◌≡◌, refl, ◌∙◌}
use mathlib.Core.Bool.{Bool, true, cond}
use mathlib.Core.List.{List, [], ◌∷◌, map}
use Prim.Native.Nat.{ℕ}
use lib.Dec.{eqb}
use Rattle.chunk_names.specs.Name.{Name, ascii, same}
use Rattle.chunk_names.specs.declared.PropertyChunk.{PropertyChunk}
use Rattle.chunk_names.specs.declared.PropertyChunk.TheVariants.{SampleRate, Channels, CompressionType, AbsoluteStartTime, LoudspeakerConfiguration}
use Rattle.tree.specs.Tree.{each}
use Rattle.prop.specs.declared.property.Properties.{Properties}
use Rattle.prop.specs.Property.{id_of, is_property_written}
use Rattle.refusal.specs.Orders.{property_rank, times}
use Rattle.file_reports.specs.Values.{property_value, property_told}
use Rattle.file_reports.specs.Recording.{Known}
use Rattle.file_reports.proofs.FoundLaws.{found, found_if, found-each}
use Rattle.file_reports.proofs.OnceLaws.{once}

module _ (known : Name → Name → Bool) (q : Properties) where
  -- what is reported of a chunk of PROP
  abbrev reported : PropertyChunk → List (List ℕ)
  reported c = cond (known (ascii "PROP") (id_of c)) (cond (is_property_written q c) (property_value q c ∷ []) []) []

  found-property : (n : Name) (c : PropertyChunk) → found (ascii "PROP") n known (ascii "PROP") (property_told q c) ≡ cond (same (id_of c) n) (reported c) []
  unfolding property_told same
  found-property n c = found_if (ascii "PROP") n known (ascii "PROP") (is_property_written q c) (id_of c) (property_value q c)

  -- the chunks have as many names as ranks
  ranked : (d c : PropertyChunk) → cond (same (id_of c) (id_of d)) (reported c) [] ≡ cond (eqb (property_rank c) (property_rank d)) (reported d) []
  unfolding same property_value
  ranked SampleRate SampleRate = refl
  ranked SampleRate _ = refl
  ranked Channels Channels = refl
  ranked Channels _ = refl
  ranked CompressionType CompressionType = refl
  ranked CompressionType _ = refl
  ranked AbsoluteStartTime AbsoluteStartTime = refl
  ranked AbsoluteStartTime _ = refl
  ranked LoudspeakerConfiguration LoudspeakerConfiguration = refl
  ranked LoudspeakerConfiguration _ = refl

  pub found-properties : (d : PropertyChunk) → Known known (ascii "PROP") (id_of d) → is_property_written q d ≡ true
      → (order : List PropertyChunk) → times (map property_rank order) (property_rank d) ≡ 1
      → found (ascii "PROP") (id_of d) known (ascii "PROP") (each (property_told q) order) ≡ property_value q d ∷ []
  found-properties d k w order e =
      found-each (ascii "PROP") (id_of d) known (ascii "PROP") (property_told q) order
      ∙ once _ property_rank (property_rank d) (reported d) (λ c. found-property (id_of d) c ∙ ranked d c) order e
      ∙ rw (k, w)
