-- A step of a build: what writing header and trailer leaves in the buffers.
-- Only `fill_around`, which a build calls inside, promises this; no promise of a released function cites it. Assumes nothing.
use Rattle.std.specs.Prelude.{◌≡◌, List, ◌++◌, ℕ, ◌-◌, ◌^◌, min}
use Rattle.chunk.specs.Append.{overlay, moved}
use Rattle.chunk.specs.Number.{be}
use Rattle.chunk_names.specs.Name.{ascii}
use Rattle.build_options.specs.Inputs.{Inputs}
use Rattle.file_tree.specs.File.{front_of, back_of, sound_length}

-- the buffers after the writing, where FRM8's data has so many bytes and the sound begins at `base`
pub record BothWritten (x : Inputs) (size base : ℕ) (h h' t t' : List ℕ) : Type 0 where
  pub header : h' ≡ overlay h 0 (ascii "FRM8" ++ be 8 size ++ front_of x base)
  pub trailer : t' ≡ overlay t 0 (back_of x base)

-- .. and the answer, the sound's length, at most the largest u64, where FRM8's data has `rest` bytes beside the sound
pub record FilledAround (x : Inputs) (rest base : ℕ) (h h' t t' : List ℕ) (r : ℕ) : Type 0 where
  pub sound : r ≡ min (sound_length x) (2 ^ 64 - 1)
  pub both : BothWritten x (moved rest r) base h h' t t'
