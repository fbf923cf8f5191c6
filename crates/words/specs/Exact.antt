-- WORDS WITHOUT A FAULT ARE TAKEN AS THEY ARE: there are 67, and each field that is narrower than its word, or a name, told back as a number is that word. (All other fields are their
-- words, or a switch's, by `inputs_of_words`.) Assumes nothing.
use Rattle.std.specs.Prelude.{Bool, true, false, cond, Option, None, Some, ◌≡◌, List, [], ◌∷◌, map, ℕ, zero, suc, length}
use Rattle.prop_fields.specs.declared.layout.Layout.{Layout}
use Rattle.prop_fields.specs.declared.layout.Layout.TheVariants.{Stereo, ThreeTwo, FivePointOne, Unspecified}
use Rattle.master_info.specs.declared.pick.ArtistTitleSource.{ArtistTitleSource}
use Rattle.master_info.specs.declared.pick.ArtistTitleSource.TheVariants.{Album, Track, TrackThenAlbum}
use Rattle.std.specs.Prelude.{Ok}
use Rattle.refusal.specs.Orders.{property_rank, info_rank, local_rank}
use Rattle.build_options.specs.Inputs.{Inputs}
use Rattle.meanings.specs.Options.{replacement_of}
use Rattle.single_words.specs.Word.{word_of, is_set}
use Rattle.words.specs.Border.{word_count, words_fault}
use Rattle.words.specs.Inputs.{halves_of, inputs_of_words}

-- the number that stands for a name (of a chunk in an order: its rank)
abbrev pub layout_number : Layout → ℕ
layout_number Stereo = 0
layout_number ThreeTwo = 1
layout_number FivePointOne = 2
layout_number Unspecified = 3

abbrev pub switch_number : Option Bool → ℕ
switch_number None = 0
switch_number (Some true) = 1
switch_number (Some false) = 2

abbrev pub source_number : ArtistTitleSource → ℕ
source_number Album = 0
source_number Track = 1
source_number TrackThenAlbum = 2

-- n words from word i on
abbrev pub words_of : List ℕ → ℕ → ℕ → List ℕ
words_of w i zero = []
words_of w i (suc n) = word_of w i ∷ words_of w (suc i) n

pub record Exact (w : List ℕ) (x : Inputs) : Type 0 where
  pub many : length w ≡ word_count
  pub channels : x.area.channels ≡ word_of w 2
  pub layout : layout_number x.area.layout ≡ word_of w 3
  pub halves : halves_of w ≡ words_of w 8 6
  pub numbers : x.options.channel_numbers ≡ cond (is_set w 6) (Some (record { count = word_of w 7; numbers = words_of w 8 6 })) None
  pub source_track : x.options.source_track ≡ word_of w 21
  pub artist_title : switch_number x.options.artist_title ≡ word_of w 32
  pub artist_title_source : source_number x.options.artist_title_source ≡ word_of w 33
  pub replacement : x.options.text_replacement ≡ replacement_of (is_set w 46) (word_of w 47)
  pub property_order_lem : map property_rank x.property_order ≡ words_of w 52 5
  pub info_order_lem : map info_rank x.info_order ≡ words_of w 57 4
  pub local_order_lem : map local_rank x.local_order ≡ words_of w 61 5

abbrev pub EveryWordExact : Type 0
EveryWordExact = (w pool raw tracks markers comments callers lengths : List ℕ) → words_fault w ≡ Ok tt → Exact w (inputs_of_words w pool raw tracks markers comments callers lengths)
