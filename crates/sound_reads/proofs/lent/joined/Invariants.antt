-- `lent::joined` meets its contract. The loop's invariant: `all` is the sum of the lengths so far, as far as it fits. Assumes nothing.
use mathlib.Core.Path.{◌≡◌}
use lib.ListN.{take}
use Rattle.chunk.specs.Append.{moved}
use Rattle.dst.specs.Start.{sum}
use Rattle.sound_reads.proofs.lent.joined.Given as goal

abbrev pub invariant-loop-length : goal.invariant-loop-length
invariant-loop-length l = l.all ≡ moved 0 (sum (take l.length-index l.lengths))
