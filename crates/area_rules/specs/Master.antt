-- The source track: 13 and 14. What an edited master asks: 15 to 23. Assumes nothing.
use Rattle.std.specs.Prelude.{ℕ, ◌-◌, not, ◌||◌, List, [], ◌∷◌, eqb, ltb}
use Rattle.tracks.specs.Track.{track_span, clip, has_frames, spans, exact}
use Rattle.refusal.specs.Verdict.{Verdict, refuse_if, first_of, when}
use Rattle.rows.specs.Row.{count_of_rows}
use Rattle.rows.specs.Durations.{short_tracks}
use Rattle.refusal.specs.declared.verdict.Refusal.TheVariants as refused
use Rattle.rows.specs.declared.row.Row.TheVariants.{Track}
use Rattle.build_options.specs.declared.area.Area.{Area}
use Rattle.build_options.specs.declared.options.Options.{Options}
use Rattle.build_options.specs.declared.options.Settings.{Settings}
use Rattle.area_rules.specs.Area.{longest_playtime}
use Rattle.build_options.specs.Area.{unspecified}

abbrev pub track_count : List ℕ → ℕ
track_count tracks = count_of_rows Track tracks

-- 13: "No such source track (13 and 14 not for an edited master)". 14: "It doesn't overlap the range". Tracks are numbered from 1; 0 is none
unfoldable pub source_fault : Area → List ℕ → ℕ → Verdict
source_fault a tracks source =
    when (not (eqb source 0))
    (first_of
    (refuse_if (ltb (track_count tracks) source) refused.NoSourceTrack
    ∷ refuse_if (not (has_frames (clip a.first a.end (track_span tracks (source - 1))))) refused.SourceTrackOutside
    ∷ []))

-- the most tracks of an edited master (02, job 10)
abbrev pub most_master_tracks : ℕ
most_master_tracks = 255

-- 15: "Edited master (15 to 23): the range isn't 0 to playtime". 16: "Unspecified layout". 17: "No tracks, or more than 255" (01; the second by 02, job 10)
unfoldable pub master_area_fault : Area → List ℕ → Verdict
master_area_fault a tracks =
    first_of
    (refuse_if (not (eqb a.first 0) || not (eqb a.end a.playtime)) refused.MasterRange
    ∷ refuse_if (unspecified a.layout) refused.MasterLayout
    ∷ refuse_if (eqb (track_count tracks) 0 || ltb most_master_tracks (track_count tracks)) refused.MasterTracks
    ∷ [])

-- the end of the last track, 0 if there is none
abbrev pub last_end : List ℕ → ℕ
last_end tracks = (track_span tracks (track_count tracks - 1)).end

-- 18: "A track is under 75 frames; detail, the first one's number". 19: "Spans empty, out of order or overlapping". 20: "The last ends after 1,151,999"
unfoldable pub master_tracks_fault : List ℕ → Verdict
master_tracks_fault tracks =
    first_of
    (short_tracks tracks
    ∷ refuse_if (not (exact (spans tracks))) refused.TrackSpans
    ∷ refuse_if (ltb longest_playtime (last_end tracks)) refused.MasterEnd
    ∷ [])

-- 21: "Custom markers". 22: "LSCO off". 23: "EMID off"
unfoldable pub master_options_fault : Options → Verdict
master_options_fault o =
    first_of
    (refuse_if o.custom_markers refused.MasterMarkers
    ∷ refuse_if (not o.loudspeaker_configuration) refused.MasterLsco
    ∷ refuse_if (not o.edited_master_id_written) refused.MasterEmid
    ∷ [])

-- 15 to 23
unfoldable pub edited_master_fault : Area → Options → List ℕ → Verdict
edited_master_fault a o tracks =
    when o.edited_master (first_of (master_area_fault a tracks ∷ master_tracks_fault tracks ∷ master_options_fault o ∷ []))

-- 13 to 23; an edited master has no source track
unfoldable pub track_faults : Area → Options → Settings → List ℕ → Verdict
track_faults a o s tracks = first_of (source_fault a tracks s.source_track ∷ edited_master_fault a o tracks ∷ [])
