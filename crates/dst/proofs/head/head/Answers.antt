-- `head::head` meets its contract. Assumes nothing.
use Rattle.dst.specs.Head.{data_size, head}
use Rattle.dst.specs.Sized.{head_sized}
use Rattle.dst.proofs.SaturateLaws.{moved_capped}
use Rattle.dst.proofs.head.head.Goals as goal

pub returns : goal.returns
unfolding head head_sized data_size
returns c = rw (c.units.ensures, moved_capped) at c.head_sized.ensures
