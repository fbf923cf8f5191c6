-- What the words of a build's inputs mean. Words that are too wide for their field, or that name nothing, are refused before (specs/Border.antt); without such a fault each field is its
-- word (specs/Exact.antt). Assumes nothing.
use Rattle.std.specs.Prelude.{Option, None, Some, cond, ℕ, List, [], ◌∷◌}
use Rattle.prop_fields.specs.declared.layout.ChannelNumbers.{ChannelNumbers}
use Rattle.build_options.specs.Inputs.{Inputs}
use Rattle.build_options.specs.declared.inputs.Lent.{Lent}
use Rattle.build_options.specs.declared.area.Area.{Area}
use Rattle.build_options.specs.declared.options.Options.{Options}
use Rattle.meanings.specs.Sound.{offset_of}
use Rattle.meanings.specs.Property.{sound_of, layout_of, start_of, property_order_of}
use Rattle.meanings.specs.Diin.{source_of, info_order_of}
use Rattle.meanings.specs.Local.{local_order_of}
use Rattle.meanings.specs.Options.{switch_of, replacement_of}
use Rattle.single_words.specs.Word.{word_of, low_byte, half_of, low_bytes, is_set, text_at}

-- words 0 to 5
unfoldable pub area_of : List ℕ → Area
area_of w = record {
  sound = sound_of (is_set w 0);
  playtime = word_of w 1;
  channels = low_byte w 2;
  layout = layout_of (low_byte w 3);
  first = word_of w 4;
  end = word_of w 5;
}

-- words 8 to 13, each by its low half
abbrev pub halves_of : List ℕ → List ℕ
halves_of w = half_of w 8 ∷ half_of w 9 ∷ half_of w 10 ∷ half_of w 11 ∷ half_of w 12 ∷ half_of w 13 ∷ []

-- words 6 to 13
unfoldable pub channel_numbers_of : List ℕ → Option ChannelNumbers
channel_numbers_of w =
    cond (is_set w 6) (Some (record { count = word_of w 7; numbers = halves_of w })) None

-- words 6 to 51
unfoldable pub choices_of : List ℕ → Options
choices_of w = record {
  channel_numbers = channel_numbers_of w;
  unspecified_loudspeaker_configuration = is_set w 14;
  loudspeaker_configuration = is_set w 15;
  absolute_start = start_of (is_set w 16) (word_of w 17);
  dst_crc = is_set w 18;
  dst_index = is_set w 19;
  dst_index_offset = offset_of (is_set w 20);
  source_track = half_of w 21;
  edited_master = is_set w 22;
  edited_master_info = is_set w 23;
  edited_master_id_written = is_set w 24;
  edited_master_id = record { start = word_of w 25; length = word_of w 26 };
  custom_markers = is_set w 27;
  source_track_markers = is_set w 28;
  clipped_program = is_set w 29;
  marker_titles = is_set w 30;
  text_pad_counted = is_set w 31;
  artist_title = switch_of (word_of w 32);
  artist_title_source = source_of (low_byte w 33);
  album = record { artist = text_at w 34; title = text_at w 37 };
  track = record { artist = text_at w 40; title = text_at w 43 };
  text_replacement = replacement_of (is_set w 46) (low_byte w 47);
  empty_text = is_set w 48;
  empty_info = is_set w 49;
  d1 = is_set w 50;
  d2 = is_set w 51;
}

-- the inputs of a build: the words, and the lent slices as they are
unfoldable pub inputs_of_words : List ℕ → List ℕ → List ℕ → List ℕ → List ℕ → List ℕ → List ℕ → List ℕ → Inputs
inputs_of_words w pool raw tracks markers comments callers lengths = record {
  area = area_of w;
  options = choices_of w;
  property_order = property_order_of (low_bytes w 52 5);
  info_order = info_order_of (low_bytes w 57 4);
  local_order = local_order_of (low_bytes w 61 5);
  local_count = word_of w 66;
  pool = pool;
  raw = raw;
  tracks = tracks;
  markers = markers;
  comments = comments;
  callers = callers;
  lengths = lengths;
}

-- the same of what is lent as one
abbrev pub inputs_told : List ℕ → Lent → Inputs
inputs_told w l =
    inputs_of_words w l.pools.text.now l.pools.bytes.now l.tracks.now l.markers.now l.comments.now l.callers.now l.lengths.now
