-- The laws of the markers made from a source track. Assumes nothing.
use mathlib.Core.Path.{◌≡◌}
use mathlib.Core.Bool.{cond, ◌&&◌, and-false}
use mathlib.Core.List.{List, [], flat_map}
use Prim.Native.Nat.{ℕ, ◌+◌, ◌-◌, ◌*◌, ◌/◌, ◌≤◌, ◌<◌}
use native.Mathlib.Omega.{arith}
use lib.ListN.{length, take, drop}
use Rattle.tracks.specs.Track.{spans, clipped, any_spans}
use Rattle.track_markers.specs.Program.{program, source_span, source_markers}
use Rattle.tracks.specs.declared.order.ProgramOptions.{ProgramOptions}
use Rattle.tracks.proofs.TrackLaws.{spans-row, spans_past}

module _ (p : ProgramOptions) (words : List ℕ) where
  -- no such track
  pub source_past : length words / 4 < p.source_track → source_markers p (spans words) ≡ []
  unfolding source_markers source_span clipped flat_map any_spans
  source_past past = rw (spans_past words (p.source_track - 1) (omega arith), and-false)

  -- its row is lent alone
  pub source_row : 1 ≤ p.source_track → p.source_track ≤ length words / 4
      → let i = p.source_track - 1 in let left = clipped p.first p.end (spans (take (i * 4 + 4 - i * 4) (drop (i * 4) words))) in
      source_markers p (spans words) ≡ cond (p.source_track_markers && any_spans left) (program p.first p.titles left) []
  unfolding source_markers source_span
  source_row given there = rw (spans-row words (p.source_track - 1) (omega arith))
