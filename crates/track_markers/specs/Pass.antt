-- Steps of one pass over spans.
-- Only contracts of private functions cite these; no promise of a public function does. Assumes nothing.
use Rattle.std.specs.Prelude.{ℕ, Bool, cond, List, [], ◌∷◌, ◌++◌, eqb, Option, None, Some}
use Rattle.markers.specs.declared.marker.MarkerKind.TheVariants.{TrackStop}
use Rattle.markers.specs.declared.marker.MarkerText.TheVariants.{Empty}
use Rattle.markers.specs.declared.marker.Marker.{Marker}
use Rattle.tracks.specs.declared.track.Span.{Span}
use Rattle.tracks.specs.Track.{has_frames}
use Rattle.track_markers.specs.Program.{marker, track_start}

-- a stop that is still to be written, if there is one
abbrev pub stop_if : Option ℕ → List Marker
stop_if None = []
stop_if (Some stop) = marker stop TrackStop Empty ∷ []

-- such a stop before a span that starts at a frame: none if it is there
abbrev pub stop_before : Option ℕ → ℕ → Option ℕ
stop_before None start = None
stop_before (Some stop) start = cond (eqb stop start) None (Some stop)

-- the stop that is still to be written after a span
abbrev pub stop_after : Option ℕ → Span → Option ℕ
stop_after last s = cond (has_frames s) (Some s.end) last

-- the markers that one span more adds: the last one's stop, unless this one starts there, and its start
unfoldable pub added_markers : Option ℕ → Bool → Span → List Marker
added_markers last titles s = cond (has_frames s) (stop_if (stop_before last s.start) ++ (track_start titles s ∷ [])) []
