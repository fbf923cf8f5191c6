-- `durations::short_tracks` meets its contract. Assumes nothing.
use mathlib.Core.Path.{◌≡◌}
use lib.ListN.{length}
use Rattle.std.specs.Prelude.{Ok}
use Rattle.std.specs.Iterator.Adapters.{enumerate_source, enumerate_count}
use Rattle.refusal.specs.Below.{first_refused}
use Rattle.rows.specs.Durations.{short_track}
use Rattle.rows.proofs.RowLaws.{RowsLeft}
use Rattle.rows.proofs.durations.short_tracks.Given as goal

-- none of the tracks so far is refused
abbrev pub invariant-loop-k : goal.invariant-loop-k
invariant-loop-k l = record {
  left : RowsLeft 4 l.tracks (enumerate_source l.k-iterator) (length l.yielded);
  count : enumerate_count l.k-iterator ≡ length l.yielded;
  none : Ok tt ≡ first_refused (short_track l.tracks) (length l.yielded);
}
