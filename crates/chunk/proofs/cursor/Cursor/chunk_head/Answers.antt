-- `Cursor::chunk_head` meets its contract. Assumes nothing.
use Rattle.chunk.proofs.AppendLaws.{◌then◌}
use Rattle.chunk.proofs.cursor.Cursor.chunk_head.Goals as goal

pub returns : goal.returns
returns c = c.name.ensures then c.be64.ensures
