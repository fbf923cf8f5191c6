-- `diin::emid` meets its contract: the places in the pool hold the part of it. Assumes nothing.
use borrow.Author.Rules.{rules}
use Rattle.chunk.proofs.AppendLaws.{none}
use Rattle.tree.proofs.TreeLaws.{bytes-stop, bytes-leaf}
use Rattle.texts.proofs.ExtentLaws.{part_places}
use Rattle.master_info.proofs.diin.emid.Goals as goal

pub returns-in-Some : goal.returns-in-Some
returns-in-Some c = rw (c.in-Some.is, bytes-leaf) (rw (c.first.ensures, c.end.ensures, part_places c.args.raw.now _) at c.chunk.ensures)

pub returns-in-None : goal.returns-in-None
returns-in-None c = rw (c.in-None.is, bytes-stop) (none (search rules) (search rules))
