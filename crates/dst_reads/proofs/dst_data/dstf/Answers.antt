-- `dst_data::dstf` meets its contract. Assumes nothing.
use mathlib.Core.Path.{refl}
use native.Mathlib.Nat.{sub-zero}
use Rattle.chunk_names.specs.Name.{ascii}
use Rattle.window.proofs.WindowLaws.{head-whole, chunk-put}
use Rattle.dst_reads.proofs.dst_data.dstf.Goals as goal

pub returns : goal.returns
returns c = let h = head-whole (ascii "DSTF") _ c.new.ensures refl refl c.chunk_head.ensures in
    chunk-put (ascii "DSTF") _ h c.put.ensures c.put-2.ensures (rw sub-zero c.put-3.ensures)
