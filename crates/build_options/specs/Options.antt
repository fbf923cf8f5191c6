-- The options, their defaults (01: "the Rust prevails on option defaults"), and what an edited master changes (01: "An edited master sets a missing start to 0, turns
-- info on, takes artist and title unless switched off (the switch is on, off or unset; unset means off elsewhere), and has no source track"). Assumes nothing.
use Rattle.std.specs.Prelude.{ℕ, Bool, true, false, cond, List, [], ◌∷◌, Option, None, Some}
use Rattle.std.specs.Option.{unwrap_or}
use Rattle.texts.specs.declared.extent.Extent.{Extent}
use Rattle.texts.specs.declared.text.TextRule.{TextRule}
use Rattle.texts.specs.declared.text.TextRule.TheVariants.{Replace, Remove, D2}
use Rattle.texts.specs.declared.text.TextOptions.{TextOptions}
use Rattle.diin_texts.specs.DiinText.{Text}
use Rattle.dst_index.specs.declared.index.DstIndexOffset.TheVariants.{ChunkHeader}
use Rattle.prop_fields.specs.Start.{Start, start_frame}
use Rattle.tracks.specs.declared.order.ProgramOptions.{ProgramOptions}
use Rattle.master_info.specs.declared.pick.ArtistTitle.{ArtistTitle}
use Rattle.master_info.specs.declared.pick.ArtistTitleSource.TheVariants.{Album}
use Rattle.master_info.specs.declared.diin.Info.{Info}
use Rattle.build_options.specs.declared.area.Area.{Area}
use Rattle.build_options.specs.declared.options.Options.{Options}
use Rattle.build_options.specs.declared.options.Settings.{Settings}

abbrev no_texts : ArtistTitle
no_texts = record { artist = None; title = None }

-- the defaults of the Rust; no source track and no tags, where it asks the TOC
unfoldable pub defaults : Options
defaults = record {
  channel_numbers = None;
  unspecified_loudspeaker_configuration = false;
  loudspeaker_configuration = true;
  absolute_start = None;
  dst_crc = false;
  dst_index = true;
  dst_index_offset = ChunkHeader;
  source_track = 0;
  edited_master = false;
  edited_master_info = false;
  edited_master_id_written = true;
  edited_master_id = record { start = 0; length = 0 };
  custom_markers = false;
  source_track_markers = false;
  clipped_program = false;
  marker_titles = false;
  text_pad_counted = false;
  artist_title = None;
  artist_title_source = Album;
  album = no_texts;
  track = no_texts;
  text_replacement = Some 0x3F;
  empty_text = false;
  empty_info = true;
  d1 = false;
  d2 = false;
}

-- whether a switch is on; one that is unset stands as told
abbrev pub is_on : Option Bool → Bool → Bool
is_on switch unset = unwrap_or switch unset

-- a start that is missing becomes 0
abbrev pub start_or_zero : Start → Start
start_or_zero start = Some (start_frame start)

-- what holds in the end
unfoldable pub effective : Options → Settings
effective o =
    cond o.edited_master
    (record { start = start_or_zero o.absolute_start; info = true; artist_title = is_on o.artist_title true; source_track = 0 })
    (record {
      start = o.absolute_start;
      info = o.edited_master_info;
      artist_title = is_on o.artist_title false;
      source_track = o.source_track;
    })

-- how values become text bytes; under D2 the replacement is idle
abbrev pub replaced : Option ℕ → TextRule
replaced None = Remove
replaced (Some b) = Replace b

abbrev pub text_rule : Bool → Option ℕ → TextRule
text_rule d2 replacement = cond d2 D2 (replaced replacement)

abbrev pub text_options : Options → TextOptions
text_options o = record {
  rule = text_rule o.d2 o.text_replacement;
  empty_text = o.empty_text;
  text_pad_counted = o.text_pad_counted;
}

-- what decides the markers that are made from tracks
abbrev pub program_options : Area → Options → Settings → ProgramOptions
program_options area o s = record {
  first = area.first;
  end = area.end;
  playtime = area.playtime;
  source_track = s.source_track;
  source_track_markers = o.source_track_markers;
  clipped_program = o.clipped_program;
  titles = o.marker_titles;
}

-- EMID's bytes, if it is written
abbrev pub id_text : Bool → Extent → Text
id_text written id = cond written (Some id) None

-- what DIIN tells
abbrev pub info_of : Area → Options → Settings → Info
info_of area o s = record {
  on = s.info;
  empty_info = o.empty_info;
  emid = id_text o.edited_master_id_written o.edited_master_id;
  custom_markers = o.custom_markers;
  program = program_options area o s;
  start = s.start;
  text = text_options o;
  artist_title = s.artist_title;
  artist_title_source = o.artist_title_source;
  album = o.album;
  track = o.track;
}

-- the extent of a text; of one that is missing, an empty one
abbrev pub text_extent : Text → Extent
text_extent None = record { start = 0; length = 0 }
text_extent (Some e) = e

-- extents as rows of two words
abbrev pub id_row : Extent → List ℕ
id_row e = e.start ∷ e.length ∷ []

abbrev pub tag_rows : ArtistTitle → ArtistTitle → List ℕ
tag_rows album track =
    (text_extent album.artist).start
    ∷ (text_extent album.artist).length
    ∷ (text_extent album.title).start
    ∷ (text_extent album.title).length
    ∷ (text_extent track.artist).start
    ∷ (text_extent track.artist).length
    ∷ (text_extent track.title).start
    ∷ (text_extent track.title).length
    ∷ []
