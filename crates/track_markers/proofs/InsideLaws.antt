-- Markers that are made from tracks lie in the range: they need no check (refusal 32). Assumes nothing.
use mathlib.Core.Path.{◌≡◌, refl}
use mathlib.Core.Bool.{Bool, true, false, cond, ◌&&◌}
use mathlib.Core.List.{List, [], ◌∷◌, ◌++◌, flat_map}
use Prim.Native.Nat.{ℕ, ◌≤◌}
use native.Mathlib.Nat.{le_refl}
use native.Mathlib.Omega.{arith}
use lib.Dec.{eqb, ltb}
use borrow.Author.Tests.{ltb-true}
use Rattle.markers.proofs.AllLaws.{All, append_all, if-all, either_all}
use Rattle.tracks.specs.Track.{clip, has_frames, kept, clipped, any_spans}
use Rattle.track_markers.specs.Program.{track_start, track_stop, stop_unless, track_markers, program, source_span, source_markers, from_toc}
use Rattle.tracks.specs.Order.{has_program}
use Rattle.markers.specs.declared.marker.Marker.{Marker}
use Rattle.tracks.specs.declared.order.ProgramOptions.{ProgramOptions}
use Rattle.tracks.specs.declared.track.Span.{Span}

-- markers, and spans, from a first frame to an end
abbrev MarkerInside : ℕ → ℕ → Marker → Type 0
MarkerInside first end m = (first ≤ m.frame) × (m.frame ≤ end)

abbrev SpanInside : ℕ → ℕ → Span → Type 0
SpanInside first end s = (first ≤ s.start) × (s.start ≤ end) × (first ≤ s.end) × (s.end ≤ end)

abbrev pub Inside : ℕ → ℕ → List Marker → Type 0
Inside first end ms = All (MarkerInside first end) ms

abbrev SpansInside : ℕ → ℕ → List Span → Type 0
SpansInside first end ss = All (SpanInside first end) ss

module _ (first end : ℕ) where
  clipped-inside : (ss : List Span) → SpansInside first end (clipped first end ss)
  unfolding clipped flat_map kept has_frames clip
  clipped-inside [] = tt
  clipped-inside (s ∷ ss) = go (ltb (clip first end s).start (clip first end s).end) refl (clipped first end ss) (clipped-inside ss)
    where
      go : (b : Bool) → ltb (clip first end s).start (clip first end s).end ≡ b → (rest : List Span) → SpansInside first end rest
          → SpansInside first end (cond b (clip first end s ∷ []) [] ++ rest)
      go true h rest more = let l = ltb-true (clip first end s).start (clip first end s).end h in ((omega arith, omega (arith, l), omega (arith, l), omega arith), more)
      go false h rest more = more

  stop-inside : (s : Span) (ss : List Span) → first ≤ s.end → s.end ≤ end → Inside first end (stop_unless s ss)
  unfolding stop_unless track_stop
  stop-inside s [] low high = ((low, high), tt)
  stop-inside s (next ∷ ss) low high = go (eqb next.start s.end)
    where
      go : (b : Bool) → Inside first end (cond b [] (track_stop s ∷ []))
      go true = tt
      go false = ((low, high), tt)

  tracks-inside : (titles : Bool) (ss : List Span) → SpansInside first end ss → Inside first end (track_markers titles ss)
  unfolding track_markers track_start
  tracks-inside titles [] i = tt
  tracks-inside titles (s ∷ ss) i =
      let here = i.0 in
      ((here.0, here.1), append_all (MarkerInside first end) (stop_unless s ss) (track_markers titles ss) (stop-inside s ss here.2 here.3) (tracks-inside titles ss i.1))

  program-inside : first ≤ end → (titles : Bool) (ss : List Span) → SpansInside first end ss → Inside first end (program first titles ss)
  unfolding program
  program-inside range titles ss i = ((le_refl first, range), tracks-inside titles ss i)

pub toc_inside : (p : ProgramOptions) (ss : List Span) → p.first ≤ p.end → Inside p.first p.end (from_toc p ss)
unfolding from_toc source_markers
toc_inside p ss range =
    let first = p.first in
    let end = p.end in
    let left = clipped first end (source_span p ss) in
    either_all (MarkerInside first end) (eqb p.source_track 0) _ _
    (if-all (MarkerInside first end) (has_program p ss) _ (program-inside first end range p.titles _ (clipped-inside first end ss)))
    (if-all (MarkerInside first end) (p.source_track_markers && any_spans left) _ (program-inside first end range p.titles left (clipped-inside first end (source_span p ss))))
