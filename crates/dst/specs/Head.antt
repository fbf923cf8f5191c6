-- The DST chunk up to its first frame. Assumes nothing.
use Rattle.std.specs.Prelude.{ℕ, Bool, List, [], ◌++◌, length}
use Rattle.chunk.specs.Append.{moved}
use Rattle.chunk.specs.Number.{be}
use Rattle.chunk_names.specs.Name.{ascii}
use Rattle.chunk.specs.Chunk.{chunk}
use Rattle.tree.specs.Tree.{Chunks, leaf, node}
use Rattle.dst.specs.Frame.{Frame}
use Rattle.dst.specs.Unit.{units, sizes}
use Rattle.dst.specs.Start.{sum}

-- the data of FRTE: how many frames, at 75 a second
unfoldable pub rate : ℕ → List ℕ
rate frames = be 4 frames ++ be 2 75

unfoldable pub frte : ℕ → List ℕ
frte frames = chunk (ascii "FRTE") (rate frames)

-- the DST chunk's data size, FRTE and the units (at most the largest u64, which says that it does not fit)
unfoldable pub data_size : List ℕ → ℕ
data_size ss = moved 18 (sum ss)

-- the header of the DST chunk, and FRTE
unfoldable pub head : Bool → List ℕ → List ℕ
head crc ls = ascii "DST " ++ be 8 (data_size (sizes crc ls)) ++ frte (length ls)

-- the DST chunk, before others
unfoldable pub dst : Bool → List Frame → Chunks → Chunks
dst crc fs rest = node (ascii "DST ") [] (leaf (ascii "FRTE") (rate (length fs)) (units crc fs)) rest
