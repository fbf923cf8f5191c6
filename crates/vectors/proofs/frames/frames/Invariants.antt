-- The frames so far end within the buffer.
use Rattle.std.proofs.Common.{◌≤◌, length}
use Rattle.vectors.proofs.frames.frames.Given as goal

abbrev pub invariant-loop-k : goal.invariant-loop-k
invariant-loop-k l =
    (goal.iterator-loop-k).can_next l.k-iterator × (goal.iterator-loop-k).is_finite l.k-iterator
    × (l.at ≤ length l.out)
