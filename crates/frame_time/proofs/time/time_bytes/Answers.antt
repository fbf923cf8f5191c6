-- `time::time_bytes` meets its contract. Assumes nothing.
use Rattle.frame_time.specs.Time.{time_bytes}
use Rattle.chunk.proofs.AppendLaws.{◌then◌}
use Rattle.frame_time.proofs.time.time_bytes.Goals as goal

pub returns : goal.returns
unfolding time_bytes
returns c = c.be16.ensures then c.byte.ensures then c.byte-2.ensures then c.be32.ensures
