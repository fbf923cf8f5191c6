-- `sides::back` meets its contract. Assumes nothing.
use Rattle.chunk.proofs.AppendLaws.{◌then◌}
use Rattle.file_tree.specs.Sides.{back}
use Rattle.file_layout.proofs.sides.back.Goals as goal

pub returns : goal.returns
unfolding back
returns c = c.local_chunks-c.ensures then c.caller_chunks.ensures
