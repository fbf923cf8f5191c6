-- `comt::comt_data` meets its contract. Assumes nothing.
use Rattle.chunk.proofs.AppendLaws.{◌then◌}
use Rattle.comt.proofs.comt.comt_data.Goals as goal

pub returns : goal.returns
returns c = c.be16-c.ensures then c.written_comments.ensures
