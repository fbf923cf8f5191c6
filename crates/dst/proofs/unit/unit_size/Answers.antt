-- `unit::unit_size` meets its contract. Assumes nothing.
use native.Mathlib.Omega.{arith}
use Rattle.chunk.specs.Chunk.{occupied}
use Rattle.dst.specs.Unit.{unit_size}
use Rattle.dst.proofs.unit.unit_size.Goals as goal

pub overflow_add-result : goal.overflow_add-result
unfolding occupied
overflow_add-result c = omega (arith, c.occupied-dstf.ensures)

pub returns-then-crc : goal.returns-then-crc
unfolding unit_size occupied
returns-then-crc c = rw c.if-crc.true (omega (arith, c.occupied-dstf.ensures))

pub returns-else-crc : goal.returns-else-crc
unfolding unit_size occupied
returns-else-crc c = rw c.if-crc.false (omega (arith, c.occupied-dstf.ensures))
