-- Whether tracks give a program (01: "None come out if nothing is left, if the clipped spans are out of order or overlap, if this isn't the play range (0
-- to playtime) and clipping is off, or if it is and the unclipped spans are empty, out of order or overlap"). Assumes nothing.
use Rattle.std.specs.Prelude.{Bool, cond, ◌&&◌, List, eqb}
use Rattle.tracks.specs.declared.track.Span.{Span}
use Rattle.tracks.specs.declared.order.ProgramOptions.{ProgramOptions}
use Rattle.tracks.specs.Track.{clipped, in_order, exact, any_spans}

-- whether the range is the play range
unfoldable pub is_play_range : ProgramOptions → Bool
is_play_range p = eqb p.first 0 && eqb p.end p.playtime

-- whether tracks without a source track give a program
unfoldable pub has_program : ProgramOptions → List Span → Bool
has_program p ss =
    let left = clipped p.first p.end ss in
    any_spans left && (in_order 0 left && cond (is_play_range p) (exact ss) p.clipped_program)
