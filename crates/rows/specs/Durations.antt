-- 18: "A track is under 75 frames; detail, the first one's number". Tracks are numbered from 1. Assumes nothing.
use Rattle.std.specs.Prelude.{ℕ, ◌+◌, List, ltb, get_or}
use Rattle.refusal.specs.declared.verdict.Refusal.TheVariants.{ShortTrack}
use Rattle.rows.specs.declared.row.Row.TheVariants.{Track}
use Rattle.refusal.specs.Verdict.{Verdict, refuse_if}
use Rattle.refusal.specs.Below.{first_refused}
use Rattle.rows.specs.Row.{row_at, count_of_rows}

abbrev pub short_track : List ℕ → ℕ → Verdict
short_track tracks k = refuse_if (ltb (get_or (row_at 4 tracks k) 1 0) 75) (ShortTrack (k + 1))

unfoldable pub short_tracks : List ℕ → Verdict
short_tracks tracks = first_refused (short_track tracks) (count_of_rows Track tracks)
