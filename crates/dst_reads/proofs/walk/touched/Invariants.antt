-- `walk::touched` meets its contract. The invariant: the bytes that are left begin within the unit of frame k. Assumes nothing.
use Rattle.dst.specs.Unit.{unit_size}
use Rattle.dst_reads.proofs.WalkLaws.{Reach}
use Rattle.dst_reads.proofs.walk.touched.Given as goal

abbrev pub invariant-loop-k : goal.invariant-loop-k
invariant-loop-k l = Reach (unit_size l.crc) l.lengths l.first l.initial.within l.count l.k l.within l.left
