-- DST sound (01: "DST data is FRTE (frames u32, 75 as u16), then per frame DSTF and, with CRC on, DSTC holding a u32"). Assumes nothing.
use Rattle.std.specs.Prelude.{ℕ, ◌+◌, Bool, cond, length}
use mathlib.Core.List.{List, [], ◌∷◌, map, flat_map}
use Rattle.chunk.specs.Number.{be}
use Rattle.chunk_names.specs.Name.{ascii}
use Rattle.chunk.specs.Chunk.{occupied}
use Rattle.tree.specs.Tree.{Chunks, stop, leaf, join, bytes}
use Rattle.checksum.specs.Crc.{crc_of}
use Rattle.dst.specs.Frame.{Frame}

-- a frame's unit: its DSTF chunk and, with CRC on, its DSTC chunk
unfoldable pub unit : Bool → Frame → Chunks
unit crc f = leaf (ascii "DSTF") f.code (cond crc (leaf (ascii "DSTC") (be 4 (crc_of f.content)) stop) stop)

unfoldable pub unit_bytes : Bool → Frame → List ℕ
unit_bytes crc f = bytes (unit crc f)

-- the chunks of frames
unfoldable pub units : Bool → List Frame → Chunks
units crc [] = stop
units crc (f ∷ fs) = join (unit crc f) (units crc fs)

-- the sound: every frame's unit
unfoldable pub sound : Bool → List Frame → List ℕ
sound crc fs = flat_map (unit_bytes crc) fs

-- how many DST bytes each frame has
abbrev pub lengths : List Frame → List ℕ
lengths fs = map (λ (f : Frame). length f.code) fs

-- what a frame of so many DST bytes occupies
unfoldable pub unit_size : Bool → ℕ → ℕ
unit_size crc l = occupied l + cond crc 16 0

-- the sizes of the units of frames with these lengths
abbrev pub sizes : Bool → List ℕ → List ℕ
sizes crc ls = map (unit_size crc) ls
