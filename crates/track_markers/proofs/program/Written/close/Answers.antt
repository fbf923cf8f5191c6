-- `Written::close` meets its contract. Assumes nothing.
use borrow.Author.Rules.{rules}
use Rattle.tree.specs.Tree.{bytes, each}
use Rattle.chunk.proofs.AppendLaws.{none}
use Rattle.tree.proofs.TreeLaws.{bytes-each-one}
use Rattle.track_markers.proofs.program.Written.close.Goals as goal

pub returns-in-Some : goal.returns-in-Some
returns-in-Some c = rw (c.in-Some.is, bytes-each-one) (rw c.plain.ensures at c.mark.ensures)

pub returns-in-None : goal.returns-in-None
unfolding bytes each
returns-in-None c = rw c.in-None.is (none (search rules) (search rules))
