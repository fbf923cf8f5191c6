-- `index::entry` meets its contract. Assumes nothing.
use Rattle.chunk.proofs.AppendLaws.{◌then◌}
use Rattle.dst_index.specs.Index.{entry}
use Rattle.dst_index.proofs.index.entry.Goals as goal

pub returns : goal.returns
unfolding entry
returns c = c.be64.ensures then c.be32.ensures
