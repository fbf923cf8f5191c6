-- What a read answers, and leaves in its buffer. Assumes nothing.
use Rattle.std.specs.Prelude.{◌≡◌, Bool, cond, List, ℕ, length, Option, Some, None}
use Rattle.window.specs.declared.window.Window.{Window}
use Rattle.window.specs.Window.{shown, after}

-- The answer of a read of these bytes, and the buffer after it. The answer is the place after the sound, or none where what is lent does not have
-- the lengths that it should (refusal 43): then nothing is written.
pub record Filling (lent : Bool) (bytes : List ℕ) (w : Window) (out last : List ℕ) (r : Option Window) : Type 0 where
  pub answer : r ≡ cond lent (Some (after (length bytes) (length out) w)) None
  pub buffer : last ≡ cond lent (shown bytes w out) out
