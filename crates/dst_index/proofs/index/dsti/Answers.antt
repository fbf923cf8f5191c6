-- `index::dsti` meets its contract: its size is filled in last. Assumes nothing.
use mathlib.Core.Path.{◌≡◌}
use mathlib.Core.List.{◌++◌}
use Prim.Native.Nat.{◌*◌}
use lib.ListN.{length}
use Rattle.chunk_names.specs.Name.{ascii}
use Rattle.chunk.specs.Append.{moved}
use Rattle.chunk.specs.Number.{be}
use Rattle.chunk.proofs.SizeLastLaws.{size-last}
use Rattle.dst_index.specs.Index.{dsti}
use Rattle.dst_index.proofs.IndexLaws.{length-index, index_unpadded}
use Rattle.dst_index.proofs.index.dsti.Goals as goal

pub returns : goal.returns
unfolding dsti
returns c = let size : c.dsti_data-end.result.at ≡ moved 0 (12 * length c.args.lengths.now) = rw (c.new.ensures, length-index) at c.dsti_data-end.ensures.place in
    rw (← size)
    (index_unpadded (ascii "DSTI" ++ be 8 c.dsti_data-end.result.at) c.args.crc _ c.args.lengths.now size
    (size-last (ascii "DSTI") c.name-size_at.ensures c.data_start-from.ensures c.new.ensures c.dsti_data-end.ensures c.close.ensures))
