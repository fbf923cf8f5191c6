-- `walk::past_blocks` meets its contract. The invariant: the position is after the blocks so far, and from there on, `within` is the place that is
-- sought. Assumes nothing.
use mathlib.Core.Path.{◌≡◌}
use Prim.Native.Nat.{◌+◌, ◌*◌}
use Rattle.dst.specs.Start.{start}
use Rattle.dst.specs.Unit.{sizes}
use Rattle.dst_reads.proofs.walk.past_blocks.Given as goal

abbrev pub invariant-loop-block : goal.invariant-loop-block
invariant-loop-block l = record {
  passed : l.position ≡ l.block-index * 64;
  place : start (sizes l.crc l.lengths) l.position + l.within ≡ l.place;
}
