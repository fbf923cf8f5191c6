-- What the answer of a fill of the sound tells. Assumes nothing.
use mathlib.Core.Path.{◌≡◌, refl}
use mathlib.Core.Bool.{Bool, true, false}
use mathlib.Core.List.{List}
use Prim.Native.Nat.{ℕ}
use Rattle.window.specs.declared.window.Window.{Window}
use Rattle.window.specs.Window.{Wrote}
use Rattle.std.specs.Prelude.{Option, Some, None}
use Rattle.sound_reads.specs.Fill.{Filling}

-- nothing was written, since what is lent is not right
pub record Untouched (lent : Bool) (out last : List ℕ) : Type 0 where
  pub wrong : lent ≡ false
  pub same : last ≡ out

-- the sound was put
pub record Put (lent : Bool) (bytes : List ℕ) (w : Window) (out last : List ℕ) (v : Window) : Type 0 where
  pub right : lent ≡ true
  pub wrote : Wrote bytes w out last v

pub untouched : (lent : Bool) {bytes : List ℕ} {w : Window} {out last : List ℕ} {r : Option Window} → Filling lent bytes w out last r → r ≡ None → Untouched lent out last
untouched true q e = absurd (cc (e, q.answer))
untouched false q e = record { wrong = refl; same = q.buffer }

pub put : (lent : Bool) {bytes : List ℕ} {w v : Window} {out last : List ℕ} {r : Option Window} → Filling lent bytes w out last r → r ≡ Some v → Put lent bytes w out last v
put true q e = record { right = refl; wrote = record { filled = q.buffer; place = cc (e, q.answer) } }
put false q e = absurd (cc (e, q.answer))
