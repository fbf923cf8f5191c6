-- `walk::bound` meets its contract. The invariant: none of the lengths so far exceeds the number. Assumes nothing.
use Prim.Native.Nat.{ℕ, ◌≤◌, ◌<◌}
use lib.ListN.{get_or}
use Rattle.dst_reads.proofs.walk.bound.Given as goal

abbrev pub invariant-loop-length : goal.invariant-loop-length
invariant-loop-length l = (i : ℕ) → i < l.length-index → get_or l.block i 0 ≤ l.most
