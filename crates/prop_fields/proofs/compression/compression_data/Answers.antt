-- `compression::compression_data` meets its contract. Assumes nothing.
use Rattle.chunk.proofs.AppendLaws.{◌then◌}
use Rattle.prop_fields.proofs.CompressionLaws.{compression_d1, compression_no_d1}
use Rattle.prop_fields.proofs.compression.compression_data.Goals as goal

pub returns-then-d1 : goal.returns-then-d1
returns-then-d1 c = rw (c.if-d1.true, ← compression_d1 c.args.kind c.args.name.now c.well_formed.1.1.0.1.0.1) (c.name-c.ensures then c.byte-c.ensures then c.bytes-c.ensures then c.pad.ensures)

pub returns-else-d1 : goal.returns-else-d1
returns-else-d1 c = rw (c.if-d1.false, ← compression_no_d1 c.args.kind c.args.name.now) (c.name-c.ensures then c.byte-c.ensures then c.bytes-c.ensures)
