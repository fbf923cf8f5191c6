-- `frame::frame_bytes` meets its contract. Assumes nothing.
use mathlib.Core.Path.{refl}
use Rattle.dst.specs.Frame.{frame_bytes}
use Rattle.dst.proofs.frame.frame_bytes.Goals as goal

pub returns : goal.returns
unfolding frame_bytes
returns c = refl
