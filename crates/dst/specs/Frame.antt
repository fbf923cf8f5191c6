-- The frames of the sound (01: "a frame has 4,704 bytes a channel"). Assumes nothing.
use Rattle.std.specs.Prelude.{ℕ, ◌*◌, Bool, cond}
use mathlib.Core.List.{List, flat_map}

-- bytes of a frame's plain content
unfoldable pub frame_bytes : ℕ → ℕ
frame_bytes channels = 4704 * channels

-- bytes of plain content that a read of DST sound is lent for each position: for the CRC only
unfoldable pub plain_bytes : Bool → ℕ → ℕ
plain_bytes crc channels = cond crc (frame_bytes channels) 0

-- a frame: its DST bytes (its code) and its plain content
pub record Frame : Type 0 where
  pub code : List ℕ
  pub content : List ℕ

-- DSD sound: the contents of its positions, one after the other
unfoldable pub dsd_sound : List (List ℕ) → List ℕ
dsd_sound contents = flat_map (λ c. c) contents
