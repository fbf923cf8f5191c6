-- THE RECORDING among the reports: the channels, the compression and every frame that were given (00, demand 3). Assumes nothing.
use Rattle.std.specs.Prelude.{◌≡◌, Bool, true, cond, ◌&&◌, List, [], ◌∷◌, map, ℕ, length}
use Rattle.chunk.specs.Number.{be}
use Rattle.chunk_names.specs.Name.{Name, ascii, same}
use Rattle.tree.specs.Reader.{Report}
use Rattle.dst.specs.Frame.{Frame, dsd_sound}
use Rattle.dst.specs.Head.{rate}
use Rattle.prop_fields.specs.declared.compression.Sound.{Sound}
use Rattle.prop_fields.specs.declared.compression.Sound.TheVariants.{Dsd, Dst}
use Rattle.prop.specs.Property.{sample_rate}
use Rattle.build_options.specs.Inputs.{Inputs}
use Rattle.file_tree.specs.Parts.{parts, properties, has_index, index_of}
use Rattle.file_tree.specs.File.{place}
use Rattle.file_reports.specs.Values.{channels_value, compression_value}

-- a reader that knows a name, with its parent
abbrev pub Known : (Name → Name → Bool) → Name → Name → Type 0
Known known parent name = known parent name ≡ true

-- the names of the sound that a reader is to know
abbrev pub KnowsSound : (Name → Name → Bool) → Sound → Type 0
KnowsSound known Dsd = Known known (ascii "FRM8") (ascii "DSD ")
KnowsSound known Dst =
    Known known (ascii "FRM8") (ascii "DST ") × Known known (ascii "DST ") (ascii "FRTE") × Known known (ascii "DST ") (ascii "DSTF")

-- the names that every reader is to know (00: "the reader knows FRM8, FVER, PROP, FS, CHNL, CMPR and the sound chunk (for DST also FRTE and DSTF), and with each name its
-- parent too")
pub record Knows (known : Name → Name → Bool) (sound : Sound) : Type 0 where
  pub form : Known known [] (ascii "FRM8")
  pub version : Known known (ascii "FRM8") (ascii "FVER")
  pub property : Known known (ascii "FRM8") (ascii "PROP")
  pub rate : Known known (ascii "PROP") (ascii "FS  ")
  pub channels : Known known (ascii "PROP") (ascii "CHNL")
  pub compression : Known known (ascii "PROP") (ascii "CMPR")
  pub sounds : KnowsSound known sound

-- the values that are reported under a parent and a name, in the reports' order
unfoldable pub values_under : Name → Name → List Report → List (List ℕ)
values_under parent name [] = []
values_under parent name (r ∷ rs) =
    cond (same r.parent parent && same r.name name) (r.value ∷ values_under parent name rs) (values_under parent name rs)

-- every frame: of DST each frame's DST bytes, in order, and how many there are; of DSD the frames' contents, one after the other, in one chunk
abbrev pub Frames : Sound → List Frame → List Report → Type 0
Frames Dsd fs rs = values_under (ascii "FRM8") (ascii "DSD ") rs ≡ dsd_sound (map (λ (f : Frame). f.content) fs) ∷ []
Frames Dst fs rs =
    (values_under (ascii "DST ") (ascii "DSTF") rs ≡ map (λ (f : Frame). f.code) fs)
    × (values_under (ascii "DST ") (ascii "FRTE") rs ≡ rate (length fs) ∷ [])

-- what was given is what is reported: the rate, the channels, the compression and the frames, each once
pub record Recording (x : Inputs) (fs : List Frame) (rs : List Report) : Type 0 where
  pub rate : values_under (ascii "PROP") (ascii "FS  ") rs ≡ be 4 sample_rate ∷ []
  pub channels : values_under (ascii "PROP") (ascii "CHNL") rs ≡ channels_value (properties (parts x)) ∷ []
  pub compression : values_under (ascii "PROP") (ascii "CMPR") rs ≡ compression_value x.area.sound ∷ []
  pub frames : Frames x.area.sound fs rs

-- the index, if the reader knows it: one, or none if there is none
abbrev pub Indexed : Inputs → List Report → Type 0
Indexed x rs = values_under (ascii "FRM8") (ascii "DSTI") rs ≡ cond (has_index (parts x)) (index_of (parts x) (place x) ∷ []) []
