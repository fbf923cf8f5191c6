-- `Cursor::close` meets its contract. Assumes nothing.
use Rattle.chunk.proofs.SizeLastLaws.{closing}
use Rattle.chunk.proofs.cursor.Cursor.close.Goals as goal

pub returns : goal.returns
returns c = closing c.be64.ensures c.skip.ensures c.pad.ensures
