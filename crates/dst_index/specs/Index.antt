-- The index of the frames (01: "DSTI .. holds per frame an 8-byte offset of the DSTF header (12 more under `FrameData`) and a 4-byte length"). Offsets count from the file's
-- first byte: the first entry's is that of the first sound byte (file_tree: specs/Parts `first_offset`, specs/File `place`), and `shift_of` more.
-- Assumes nothing.
use Rattle.std.specs.Prelude.{ℕ, zero, suc, ◌*◌, ◌≡◌, Bool, List, [], ◌++◌, length, take, drop, get_or}
use Rattle.chunk.specs.Append.{moved}
use Rattle.chunk.specs.Number.{be}
use Rattle.chunk_names.specs.Name.{ascii}
use Rattle.dst.specs.Unit.{sizes}
use Rattle.dst.specs.Start.{start}
use Rattle.dst_index.specs.declared.index.DstIndexOffset.{DstIndexOffset}
use Rattle.dst_index.specs.declared.index.DstIndexOffset.TheVariants.{ChunkHeader, FrameData}

-- how far past the DSTF header's first byte an offset leads
abbrev pub shift_of : DstIndexOffset → ℕ
shift_of ChunkHeader = 0
shift_of FrameData = 12

-- an entry
unfoldable pub entry : ℕ → ℕ → List ℕ
entry offset l = be 8 offset ++ be 4 l

-- entry i: the first entry's offset and the sizes of the units before frame i, at most the largest u64; and frame i's length
abbrev pub entry_of : Bool → ℕ → List ℕ → ℕ → List ℕ
entry_of crc at lengths i = entry (moved at (start (sizes crc lengths) i)) (get_or lengths i 0)

-- f 0, f 1, .. below n, joined
unfoldable pub joined : (ℕ → List ℕ) → ℕ → List ℕ
joined f zero = []
joined f (suc n) = joined f n ++ f n

-- the entries of frames with these lengths, of which the first has this offset
unfoldable pub index : Bool → ℕ → List ℕ → List ℕ
index crc at lengths = joined (entry_of crc at lengths) (length lengths)

-- DSTI, of entries whose first has this offset: its size, at most the largest u64 (which says that it does not fit), and the entries, which need no pad
unfoldable pub dsti : Bool → ℕ → List ℕ → List ℕ
dsti crc at ls = ascii "DSTI" ++ be 8 (moved 0 (12 * length ls)) ++ index crc at ls

-- at a place of a file stands x
abbrev pub Stands : List ℕ → ℕ → List ℕ → Type 0
Stands file place x = take (length x) (drop place file) ≡ x
