-- The laws of specs/Sound.antt. Assumes nothing.
use mathlib.Core.Path.{◌≡◌, ap, ◌∙◌}
use mathlib.Core.Bool.{Bool, true, false}
use mathlib.Core.List.{List}
use Prim.Native.Nat.{ℕ, ◌+◌, ◌-◌, min}
use native.Mathlib.Omega.{arith}
use lib.ListN.{length}
use Rattle.std.specs.Prelude.{Option}
use Rattle.window.specs.declared.window.Window.{Window}
use Rattle.window.specs.Window.{shown, after}
use Rattle.sound_reads.specs.Fill.{Filling}
use Rattle.abi.specs.Sound.{Count}
use Rattle.abi.specs.Steps.{count_of}

from_zero : (a o : ℕ) → 0 + min a (o - 0) ≡ min a o
from_zero a o = omega arith

-- how many bytes a read from the buffer's front filled
pub counted : (lent : Bool) (bytes : List ℕ) (skip : ℕ) (out last : List ℕ) (r : Option Window) (n : ℕ)
    → Filling lent bytes (record { at = 0; skip = skip }) out last r → n ≡ count_of r → Count lent bytes skip out last n
unfolding shown after
counted true bytes skip out last r n p e =
    record { answer = e ∙ ap count_of p.answer ∙ from_zero (length bytes - skip) (length out); buffer = p.buffer }
counted false bytes skip out last r n p e = record { answer = e ∙ ap count_of p.answer; buffer = p.buffer }
