-- `dst_data::dstc_bytes` meets its contract. Assumes nothing.
use mathlib.Core.Path.{refl}
use Rattle.chunk_names.specs.Name.{ascii}
use Rattle.window.proofs.WindowLaws.{number-whole}
use Rattle.dst_reads.proofs.dst_data.dstc_bytes.Goals as goal

pub returns : goal.returns
returns c = rw (← c.crc.ensures)
    (number-whole (ascii "DSTC") _ c.new.ensures refl refl c.chunk_head-c.ensures c.be32.ensures)
