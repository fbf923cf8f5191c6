-- `head::rate` meets its contract. Assumes nothing.
use Rattle.chunk.proofs.AppendLaws.{◌then◌}
use Rattle.dst.specs.Head.{rate}
use Rattle.dst.proofs.head.rate.Goals as goal

pub returns : goal.returns
unfolding rate
returns c = c.be32.ensures then c.be16.ensures
