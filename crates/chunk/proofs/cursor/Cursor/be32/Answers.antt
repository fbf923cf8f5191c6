-- `Cursor::be32` meets its contract. Assumes nothing.
use Rattle.chunk.proofs.NumberLaws.{high_first}
use Rattle.chunk.proofs.cursor.Cursor.be32.Goals as goal

pub returns : goal.returns
returns c = rw (c.to_be_bytes.ensures, high_first 4 c.args.x) at c.bytes.ensures
