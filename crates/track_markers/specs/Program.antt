-- The markers that are made from tracks (01: "None come out if nothing is left, if the clipped spans are out of order or overlap, if this isn't the play range (0
-- to playtime) and clipping is off, or if it is and the unclipped spans are empty, out of order or overlap. Otherwise program start at first, then per span its
-- start, and its stop unless the next starts there. Under the title option a start's text is its track's converted title; all other texts here are empty. With a
-- source track none of these conditions applies: its clipped span alone gives the markers if that switch is on, and there are none if it is off"). Assumes nothing.
use Rattle.std.specs.Prelude.{ℕ, ◌-◌, Bool, cond, ◌&&◌, List, [], ◌∷◌, ◌++◌, take, drop, eqb}
use Rattle.markers.specs.declared.marker.MarkerKind.{MarkerKind}
use Rattle.markers.specs.declared.marker.MarkerKind.TheVariants.{TrackStart, TrackStop, ProgramStart}
use Rattle.markers.specs.declared.marker.MarkerText.{MarkerText}
use Rattle.markers.specs.declared.marker.MarkerText.TheVariants.{Empty, Title}
use Rattle.markers.specs.declared.marker.Marker.{Marker}
use Rattle.tracks.specs.declared.track.Span.{Span}
use Rattle.tracks.specs.declared.order.ProgramOptions.{ProgramOptions}
use Rattle.tracks.specs.Track.{clipped, any_spans}
use Rattle.tracks.specs.Order.{has_program}

-- a marker without flags
abbrev pub marker : ℕ → MarkerKind → MarkerText → Marker
marker frame kind text = record { frame = frame; kind = kind; track_flags = 0; text = text }

-- the start of a span, under the title option with its track's title
unfoldable pub track_start : Bool → Span → Marker
track_start titles s = marker s.start TrackStart (cond titles (Title s.title) Empty)

unfoldable pub track_stop : Span → Marker
track_stop s = marker s.end TrackStop Empty

-- the stop of a span, unless the next starts there
unfoldable pub stop_unless : Span → List Span → List Marker
stop_unless s [] = track_stop s ∷ []
stop_unless s (next ∷ _) = cond (eqb next.start s.end) [] (track_stop s ∷ [])

-- the starts and stops of spans
unfoldable pub track_markers : Bool → List Span → List Marker
track_markers titles [] = []
track_markers titles (s ∷ ss) = track_start titles s ∷ (stop_unless s ss ++ track_markers titles ss)

-- a program that begins at a frame
unfoldable pub program : ℕ → Bool → List Span → List Marker
program first titles ss = marker first ProgramStart Empty ∷ track_markers titles ss

-- the span of the source track: the tracks are numbered from 1
unfoldable pub source_span : ProgramOptions → List Span → List Span
source_span p ss = take 1 (drop (p.source_track - 1) ss)

-- the markers made from a source track
unfoldable pub source_markers : ProgramOptions → List Span → List Marker
source_markers p ss =
    let left = clipped p.first p.end (source_span p ss) in
    cond (p.source_track_markers && any_spans left) (program p.first p.titles left) []

-- the markers made from tracks
unfoldable pub from_toc : ProgramOptions → List Span → List Marker
from_toc p ss =
    cond (eqb p.source_track 0)
    (cond (has_program p ss) (program p.first p.titles (clipped p.first p.end ss)) [])
    (source_markers p ss)
