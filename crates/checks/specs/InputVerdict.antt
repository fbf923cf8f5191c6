-- The verdict on all that a build is given: the first refusal of 01's list ("Turned down, in checking order"). Assumes nothing.
use Rattle.std.specs.Prelude.{ℕ, ◌&&◌, List, [], ◌∷◌}
use Rattle.chunk_names.specs.declared.InfoChunk.{InfoChunk}
use Rattle.chunk_names.specs.declared.LocalChunk.{LocalChunk}
use Rattle.refusal.specs.Verdict.{Verdict, first_of}
use Rattle.faults.specs.Caller.{caller_faults}
use Rattle.comment_faults.specs.Comments.{comment_faults}
use Rattle.build_options.specs.declared.area.Area.{Area}
use Rattle.build_options.specs.declared.options.Options.{Options}
use Rattle.build_options.specs.declared.options.Settings.{Settings}
use Rattle.build_options.specs.Inputs.{Inputs}
use Rattle.build_options.specs.Options.{effective, text_options, info_of}
use Rattle.rules.specs.Limits.{limit_faults}
use Rattle.build_options.specs.Area.{is_dst}
use Rattle.area_rules.specs.Area.{area_faults}
use Rattle.area_rules.specs.Master.{track_faults}
use Rattle.rules.specs.Property.{property_faults}
use Rattle.rules.specs.Info.{info_faults}
use Rattle.local_rules.specs.Local.{local_faults}

-- 1 to 3, then 4 and 5
unfoldable pub given_faults : Options → List ℕ → List ℕ → List ℕ → List ℕ → List ℕ → List ℕ → Verdict
given_faults o pool raw tracks markers comments callers =
    first_of (limit_faults o pool raw tracks markers comments callers ∷ caller_faults callers ∷ [])

-- 30 to 33, then 34 to 36, then 37 to 39
unfoldable pub chunk_faults : Area → Options → Settings → List InfoChunk → List LocalChunk → ℕ → List ℕ → List ℕ → List ℕ → List ℕ → List ℕ → Verdict
chunk_faults a o s info_order local_order local_count pool raw tracks markers comments =
    first_of
    (info_faults a (info_of a o s) info_order raw markers
    ∷ comment_faults comments pool (text_options o) a.channels
    ∷ local_faults pool raw tracks markers comments info_order (info_of a o s) (is_dst a.sound && o.dst_index) local_order local_count
    ∷ [])

-- the verdict: 1 to 5, 6 to 12, 13 to 23, 24 to 29, 30 to 39
unfoldable pub verdict : Inputs → Verdict
verdict x =
    first_of
    (given_faults x.options x.pool x.raw x.tracks x.markers x.comments x.callers
    ∷ area_faults x.area x.lengths
    ∷ track_faults x.area x.options (effective x.options) x.tracks
    ∷ property_faults x.area x.options (effective x.options) x.property_order
    ∷ chunk_faults x.area x.options (effective x.options) x.info_order x.local_order x.local_count x.pool x.raw x.tracks x.markers x.comments
    ∷ [])
