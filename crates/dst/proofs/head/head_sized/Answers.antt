-- `head::head_sized` meets its contract. Assumes nothing.
use Rattle.chunk.proofs.AppendLaws.{◌then◌}
use Rattle.dst.specs.Head.{frte, rate}
use Rattle.dst.specs.Sized.{head_sized}
use Rattle.dst.proofs.LowLaws.{be-mod}
use Rattle.dst.proofs.head.head_sized.Goals as goal

pub returns : goal.returns
unfolding head_sized frte rate
returns c = rw (← be-mod 4 c.args.frames, ← c.with_frte.ensures) (c.chunk_head-c.ensures then c.frte.ensures)
