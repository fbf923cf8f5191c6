-- `dst_data::unit` meets its contract. Assumes nothing.
use Rattle.dst.proofs.UnitLaws.{unit-plain, unit-crc}
use Rattle.window.proofs.WindowLaws.{◌then◌}
use Rattle.dst_reads.proofs.dst_data.unit.Goals as goal

pub returns-then-crc : goal.returns-then-crc
returns-then-crc c = rw (c.if-crc.true, unit-crc _) (c.dstf-w.ensures then c.dstc.ensures)

pub returns-else-crc : goal.returns-else-crc
returns-else-crc c = rw (c.if-crc.false, unit-plain _) c.dstf-w.ensures
