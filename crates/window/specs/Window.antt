-- What a read leaves in its buffer (01: "each piece is written into the stretch of the caller's buffer that begins at its offset, and later
-- bytes stay"). Assumes nothing.
use Rattle.std.specs.Prelude.{◌≡◌, List, ℕ, ◌+◌, ◌-◌, min, length, drop}
use Rattle.chunk.specs.Append.{overlay}
use Rattle.window.specs.declared.window.Window.{Window}

-- the buffer after bytes are put at a read's place, less those that are skipped: as many as fit
unfoldable pub shown : List ℕ → Window → List ℕ → List ℕ
shown bytes w out = overlay out w.at (drop w.skip bytes)

-- the place after n bytes, in a buffer of so many
unfoldable pub after : ℕ → ℕ → Window → Window
after n len w = record { at = w.at + min (n - w.skip) (len - w.at); skip = w.skip - n }

-- bytes were put at the place w of a buffer: `last` is the buffer now, and v the place
pub record Wrote (bytes : List ℕ) (w : Window) (out last : List ℕ) (v : Window) : Type 0 where
  pub filled : last ≡ shown bytes w out
  pub place : v ≡ after (length bytes) (length out) w
