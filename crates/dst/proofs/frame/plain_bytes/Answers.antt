-- `frame::plain_bytes` meets its contract. Assumes nothing.
use mathlib.Core.Path.{refl}
use Rattle.dst.specs.Frame.{plain_bytes}
use Rattle.dst.proofs.frame.plain_bytes.Goals as goal

pub returns-then-crc : goal.returns-then-crc
unfolding plain_bytes
returns-then-crc c = rw c.if-crc.true c.frame_bytes.ensures

pub returns-else-crc : goal.returns-else-crc
unfolding plain_bytes
returns-else-crc c = rw c.if-crc.false refl
