-- `Cursor::chunk_of` meets its contract: a chunk whose size is filled in last. Assumes nothing.
use Rattle.chunk.proofs.SizeLastLaws.{chunk-size-last}
use Rattle.chunk.proofs.cursor.Cursor.chunk_of.Goals as goal

pub returns : goal.returns
returns g c content short writes = chunk-size-last c.args.id short c.name-size_at.ensures c.data_start-from.ensures c.new.ensures (writes _ _ _ _ c.write-end.ensures) c.close.ensures
