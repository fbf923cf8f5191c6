-- `sides::front_sized` meets its contract. Assumes nothing.
use Rattle.chunk.specs.Number.{be}
use Rattle.chunk.proofs.AppendLaws.{◌then◌}
use Rattle.file_tree.specs.Sized.{front_sized}
use Rattle.file_layout.proofs.sides.front_sized.Goals as goal

pub returns : goal.returns
unfolding front_sized be
returns c = c.name-c.ensures then c.chunk-c.ensures then c.local_chunks-c.ensures then c.sound_head_sized.ensures
