-- The words of a build before anything is told (01: "the Rust prevails on option defaults"). The area's words are 0, so a build that is not told its channels is refused (7), and one
-- that is not told its range too (12). Assumes nothing.
use Rattle.std.specs.Prelude.{◌≡◌, List, [], ◌∷◌, ◌++◌, ℕ}
use Rattle.chunk_names.specs.Name.{property_order, info_order, local_order}
use Rattle.prop_fields.specs.declared.compression.Sound.TheVariants.{Dsd}
use Rattle.prop_fields.specs.declared.layout.Layout.TheVariants.{Stereo}
use Rattle.build_options.specs.Inputs.{Inputs}
use Rattle.build_options.specs.Options.{defaults}
use Rattle.build_options.specs.declared.area.Area.{Area}
use Rattle.std.specs.Prelude.{Ok}
use Rattle.words.specs.Border.{words_fault}
use Rattle.words.specs.Inputs.{inputs_of_words}

-- words 0 to 13: the area, no channel numbers
abbrev area_words : List ℕ
area_words = 0 ∷ 0 ∷ 0 ∷ 0 ∷ 0 ∷ 0 ∷ 0 ∷ 0 ∷ 0 ∷ 0 ∷ 0 ∷ 0 ∷ 0 ∷ 0 ∷ []

-- words 14 to 26: of the switches, LSCO, DSTI and EMID are on
abbrev sound_words : List ℕ
sound_words = 0 ∷ 1 ∷ 0 ∷ 0 ∷ 0 ∷ 1 ∷ 0 ∷ 0 ∷ 0 ∷ 0 ∷ 1 ∷ 0 ∷ 0 ∷ []

-- words 27 to 33: markers, artist and title
abbrev marker_words : List ℕ
marker_words = 0 ∷ 0 ∷ 0 ∷ 0 ∷ 0 ∷ 0 ∷ 0 ∷ []

-- words 34 to 51: no texts; a question mark for what is no text byte; an empty DIIN is written
abbrev text_words : List ℕ
text_words = 0 ∷ 0 ∷ 0 ∷ 0 ∷ 0 ∷ 0 ∷ 0 ∷ 0 ∷ 0 ∷ 0 ∷ 0 ∷ 0 ∷ 1 ∷ 0x3F ∷ 0 ∷ 1 ∷ 0 ∷ 0 ∷ []

-- words 52 to 66: the orders of PROP, of DIIN and of the local chunks, which are five
abbrev order_words : List ℕ
order_words = 0 ∷ 1 ∷ 2 ∷ 3 ∷ 4 ∷ 0 ∷ 1 ∷ 2 ∷ 3 ∷ 0 ∷ 4 ∷ 3 ∷ 1 ∷ 2 ∷ 5 ∷ []

unfoldable pub default_words : List ℕ
default_words = area_words ++ sound_words ++ marker_words ++ text_words ++ order_words

-- an area of which nothing is told
abbrev pub no_area : Area
no_area = record { sound = Dsd; playtime = 0; channels = 0; layout = Stereo; first = 0; end = 0 }

-- THE DEFAULT WORDS ARE THE DEFAULTS: the words themselves have no fault, and the inputs that they mean have the default options and orders
pub record Defaults (x : Inputs) : Type 0 where
  pub no_fault : words_fault default_words ≡ Ok tt
  pub area : x.area ≡ no_area
  pub options : x.options ≡ defaults
  pub property_order_lem : x.property_order ≡ property_order
  pub info_order_lem : x.info_order ≡ info_order
  pub local_order_lem : x.local_order ≡ local_order
  pub local-count : x.local_count ≡ 5

abbrev pub DefaultWords : Type 0
DefaultWords = (pool raw tracks markers comments callers lengths : List ℕ) → Defaults (inputs_of_words default_words pool raw tracks markers comments callers lengths)
