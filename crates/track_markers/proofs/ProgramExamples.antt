-- The figures of a program, worked out by the definitions. Assumes nothing.
use mathlib.Core.Path.{◌≡◌, refl}
use mathlib.Core.Bool.{true, false}
use mathlib.Core.List.{List, [], ◌∷◌, flat_map}
use Prim.Native.Nat.{ℕ}
use Rattle.chunk.specs.Rows.{first_rows, rows}
use Rattle.tracks.specs.Track.{span_of, spans, clip, has_frames, kept, clipped, in_order, all_have_frames, exact, any_spans}
use Rattle.track_markers.specs.Program.{marker, track_start, track_stop, stop_unless, track_markers, program, from_toc}
use Rattle.tracks.specs.Order.{is_play_range, has_program}
use Rattle.markers.specs.declared.marker.MarkerKind.TheVariants.{TrackStart, TrackStop, ProgramStart}
use Rattle.markers.specs.declared.marker.MarkerText.TheVariants.{Empty, Title}
use Rattle.tracks.specs.declared.order.ProgramOptions.{ProgramOptions}

-- tracks of one second each, one after the other
words : List ℕ
words = 0 ∷ 75 ∷ 0 ∷ 0 ∷ 75 ∷ 75 ∷ 0 ∷ 0 ∷ []

-- both of them, without titles
both : ProgramOptions
both = record {
  first = 0;
  end = 150;
  playtime = 150;
  source_track = 0;
  source_track_markers = false;
  clipped_program = false;
  titles = false;
}

-- the first track has no stop, as the second starts there
both-markers : from_toc both (spans words)
    ≡ marker 0 ProgramStart Empty ∷ marker 0 TrackStart Empty ∷ marker 75 TrackStart Empty ∷ marker 150 TrackStop Empty ∷ []
unfolding words both rows first_rows flat_map span_of spans clip has_frames kept clipped in_order all_have_frames exact any_spans track_start track_stop stop_unless track_markers program is_play_range has_program from_toc
both-markers = refl

-- three tracks with titles, of which the second lies outside the range
three : List ℕ
three = 0 ∷ 5 ∷ 10 ∷ 1 ∷ 30 ∷ 5 ∷ 11 ∷ 1 ∷ 5 ∷ 5 ∷ 12 ∷ 1 ∷ []

range : ProgramOptions
range = record {
  first = 0;
  end = 10;
  playtime = 40;
  source_track = 0;
  source_track_markers = false;
  clipped_program = true;
  titles = true;
}

-- the third keeps its own title
third_title : from_toc range (spans three)
    ≡ marker 0 ProgramStart Empty
    ∷ marker 0 TrackStart (Title (record { start = 10; length = 1 }))
    ∷ marker 5 TrackStart (Title (record { start = 12; length = 1 }))
    ∷ marker 10 TrackStop Empty
    ∷ []
unfolding three range rows first_rows flat_map span_of spans clip has_frames kept clipped in_order all_have_frames exact any_spans track_start track_stop stop_unless track_markers program is_play_range has_program from_toc
third_title = refl
