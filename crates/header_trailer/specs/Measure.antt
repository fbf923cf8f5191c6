-- A step of a build: what measuring answers.
-- Only `measure`, which a build calls inside, promises this; no promise of a released function cites it. Assumes nothing.
use Rattle.std.specs.Prelude.{◌≡◌, length}
use Rattle.chunk.specs.Append.{moved}
use Rattle.build_options.specs.Inputs.{Inputs}
use Rattle.file_tree.specs.File.{front_of, back_of, Ordered}
use Rattle.header_trailer.specs.declared.measure.Lengths.{Lengths}

-- the lengths of FRM8's data before the sound, and of the trailer, at most the largest usize
pub record Measured (x : Inputs) (r : Lengths) : Type 0 where
  pub orders : Ordered x
  pub front : r.front ≡ moved 0 (length (front_of x 0))
  pub back : r.back ≡ moved 0 (length (back_of x 0))
