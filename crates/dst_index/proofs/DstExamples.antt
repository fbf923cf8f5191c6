-- The figures of document 01 of DST sound, worked out by the definitions. Assumes nothing.
use mathlib.Core.Path.{◌≡◌, refl}
use mathlib.Core.Bool.{true, false}
use mathlib.Core.List.{List, [], ◌∷◌}
use Prim.Native.Nat.{ℕ, ◌+◌}
use lib.ListN.{length}
use Rattle.chunk.specs.Append.{moved}
use Rattle.chunk.specs.Number.{be}
use Rattle.chunk.specs.Chunk.{pad, chunk, occupied}
use Rattle.tree.specs.Tree.{bytes}
use Rattle.checksum.specs.Crc.{bit, bits, byte_of, bytes_of, crc_of}
use Rattle.dst.specs.Frame.{Frame}
use Rattle.dst.specs.Unit.{unit, unit_bytes, unit_size, sizes}
use Rattle.dst.specs.Start.{sum, start}
use Rattle.dst.specs.Head.{rate, frte, data_size, head}
use Rattle.dst_index.specs.Index.{shift_of, entry, joined, index}
use Rattle.dst_index.specs.declared.index.DstIndexOffset.TheVariants.{ChunkHeader, FrameData}

-- the CRC of nothing, and of the byte 1
crc-none : crc_of [] ≡ 0
unfolding crc_of bytes_of
crc-none = refl

crc-one : crc_of (1 ∷ []) ≡ 0x8000_0011
unfolding crc_of bytes_of byte_of bits bit
crc-one = refl

-- a frame of three DST bytes, whose plain content is the byte 1, with CRC on
frame : Frame
frame = record { code = 7 ∷ 8 ∷ 9 ∷ []; content = 1 ∷ [] }

unit-spelled : unit_bytes true frame
    ≡ 68 ∷ 83 ∷ 84 ∷ 70 ∷ 0 ∷ 0 ∷ 0 ∷ 0 ∷ 0 ∷ 0 ∷ 0 ∷ 3 ∷ 7 ∷ 8 ∷ 9 ∷ 0
    ∷ 68 ∷ 83 ∷ 84 ∷ 67 ∷ 0 ∷ 0 ∷ 0 ∷ 0 ∷ 0 ∷ 0 ∷ 0 ∷ 4 ∷ 0x80 ∷ 0 ∷ 0 ∷ 0x11 ∷ []
unfolding frame unit_bytes unit bytes chunk be pad crc_of bytes_of byte_of bits bit
unit-spelled = refl

-- frames of 3 and 4 DST bytes
ls : List ℕ
ls = 3 ∷ 4 ∷ []

-- the DST chunk's data size, and the chunk up to its first frame
data_size_lem : data_size (sizes false ls) ≡ 50
unfolding ls data_size sum unit_size occupied
data_size_lem = refl

data_size-crc : data_size (sizes true ls) ≡ 82
unfolding ls data_size sum unit_size occupied
data_size-crc = refl

head-spelled : head false ls
    ≡ 68 ∷ 83 ∷ 84 ∷ 32 ∷ 0 ∷ 0 ∷ 0 ∷ 0 ∷ 0 ∷ 0 ∷ 0 ∷ 50
    ∷ 70 ∷ 82 ∷ 84 ∷ 69 ∷ 0 ∷ 0 ∷ 0 ∷ 0 ∷ 0 ∷ 0 ∷ 0 ∷ 6 ∷ 0 ∷ 0 ∷ 0 ∷ 2 ∷ 0 ∷ 75 ∷ []
unfolding ls head frte rate chunk be pad data_size sum unit_size occupied
head-spelled = refl

-- the index after a header of 158 bytes: the offsets of the DSTF chunks, of the frames, and of the DSTF chunks with CRC on
index-header : index false (moved 158 (shift_of ChunkHeader)) ls
    ≡ 0 ∷ 0 ∷ 0 ∷ 0 ∷ 0 ∷ 0 ∷ 0 ∷ 158 ∷ 0 ∷ 0 ∷ 0 ∷ 3 ∷ 0 ∷ 0 ∷ 0 ∷ 0 ∷ 0 ∷ 0 ∷ 0 ∷ 174 ∷ 0 ∷ 0 ∷ 0 ∷ 4 ∷ []
unfolding ls index joined entry be start sum unit_size occupied
index-header = refl

index-frame : index false (moved 158 (shift_of FrameData)) ls
    ≡ 0 ∷ 0 ∷ 0 ∷ 0 ∷ 0 ∷ 0 ∷ 0 ∷ 170 ∷ 0 ∷ 0 ∷ 0 ∷ 3 ∷ 0 ∷ 0 ∷ 0 ∷ 0 ∷ 0 ∷ 0 ∷ 0 ∷ 186 ∷ 0 ∷ 0 ∷ 0 ∷ 4 ∷ []
unfolding ls index joined entry be start sum unit_size occupied
index-frame = refl

index-crc : index true (moved 158 (shift_of ChunkHeader)) ls
    ≡ 0 ∷ 0 ∷ 0 ∷ 0 ∷ 0 ∷ 0 ∷ 0 ∷ 158 ∷ 0 ∷ 0 ∷ 0 ∷ 3 ∷ 0 ∷ 0 ∷ 0 ∷ 0 ∷ 0 ∷ 0 ∷ 0 ∷ 190 ∷ 0 ∷ 0 ∷ 0 ∷ 4 ∷ []
unfolding ls index joined entry be start sum unit_size occupied
index-crc = refl

-- the file: that header, the units, and DSTI; and the data size of FRM8, whose name and size take 12 bytes
file-size : 158 + sum (sizes false ls) + occupied (length (index false 158 ls)) ≡ 226
unfolding ls index joined entry be start sum unit_size occupied
file-size = refl

form-size : 158 + sum (sizes false ls) + occupied (length (index false 158 ls)) ≡ 12 + 214
unfolding ls index joined entry be start sum unit_size occupied
form-size = refl

file-size-crc : 158 + sum (sizes true ls) + occupied (length (index true 158 ls)) ≡ 258
unfolding ls index joined entry be start sum unit_size occupied
file-size-crc = refl
