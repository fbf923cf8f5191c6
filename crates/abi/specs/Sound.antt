-- The answers of the exported reads of the sound. Assumes nothing.
use Rattle.std.specs.Prelude.{◌≡◌, ℕ, ◌-◌, ◌^◌, min, Bool, cond, List, length, drop}
use Rattle.chunk.specs.Append.{overlay}

-- the answer of a read of these bytes from the buffer's front on, and the buffer after it: if what the read needs is not lent, nothing is written
pub record Count (lent : Bool) (bytes : List ℕ) (skip : ℕ) (out last : List ℕ) (r : ℕ) : Type 0 where
  pub answer : r ≡ cond lent (min (length bytes - skip) (length out)) (2 ^ 64 - 1)
  pub buffer : last ≡ cond lent (overlay out 0 (drop skip bytes)) out
