-- `sound::jangqeruz_dsd_fill` meets its contract. Assumes nothing.
use native.Mathlib.Nat.{sub-zero}
use Rattle.abi.proofs.SoundLaws.{counted}
use Rattle.abi.proofs.sound.jangqeruz_dsd_fill.Goals as goal

pub returns : goal.returns
returns c = counted _ _ _ _ _ _ _ (rw sub-zero at c.fill.ensures) c.count.ensures
