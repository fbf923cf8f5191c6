-- Markers that are given, as rows of four words: frame, kind · 65,536 + flags, text start, text length. Assumes nothing.
use Rattle.std.specs.Prelude.{ℕ, ◌/◌, ◌%◌, ◌^◌, cond, List, map, get_or, eqb}
use Rattle.chunk.specs.Rows.{rows}
use Rattle.markers.specs.declared.marker.MarkerKind.{MarkerKind}
use Rattle.markers.specs.declared.marker.MarkerKind.TheVariants.{TrackStart, TrackStop, ProgramStart, Index}
use Rattle.markers.specs.declared.marker.MarkerText.TheVariants.{Bytes}
use Rattle.markers.specs.declared.marker.Marker.{Marker}

-- the kind of a number; numbers that have none are an index
unfoldable pub kind_of : ℕ → MarkerKind
kind_of n = cond (eqb n 0) TrackStart (cond (eqb n 1) TrackStop (cond (eqb n 2) ProgramStart Index))

unfoldable pub custom_of : List ℕ → Marker
custom_of row = record {
  frame = get_or row 0 0;
  kind = kind_of (get_or row 1 0 / 2 ^ 16);
  track_flags = get_or row 1 0 % 2 ^ 16;
  text = Bytes (record { start = get_or row 2 0; length = get_or row 3 0 });
}

-- the markers of the whole rows
unfoldable pub customs : List ℕ → List Marker
customs words = map custom_of (rows 4 words)
