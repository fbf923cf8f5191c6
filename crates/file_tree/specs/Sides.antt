-- The local chunks on either side of the sound, and FRM8's data up to the sound and behind it, with `base` for the place of the first sound byte in the
-- file, from which the index's offsets are counted. Assumes nothing.
use Rattle.std.specs.Prelude.{Bool, true, false, cond, ℕ, min, take}
use mathlib.Core.List.{List, [], ◌∷◌, ◌++◌, flat_map}
use Rattle.chunk.specs.Number.{be}
use Rattle.chunk_names.specs.Name.{ascii}
use Rattle.chunk.specs.Chunk.{chunk}
use Rattle.tree.specs.Tree.{bytes}
use Rattle.chunk_names.specs.declared.LocalChunk.{LocalChunk}
use Rattle.chunk_names.specs.declared.LocalChunk.TheVariants.{Property, SoundData, DstIndex, EditedMasterInfo, Comments}
use Rattle.comt.specs.Comment.{comt}
use Rattle.dst_index.specs.Index.{dsti}
use Rattle.prop.specs.Property.{property}
use Rattle.master_info.specs.Diin.{diin}
use Rattle.file_tree.specs.Parts.{Parts, properties, info, has_index, first_offset}
use Rattle.file_tree.specs.Sound.{sound_head}
use Rattle.caller_chunks.specs.Caller.{caller_chunks}

abbrev pub is_sound : LocalChunk → Bool
is_sound Property = false
is_sound SoundData = true
is_sound DstIndex = false
is_sound EditedMasterInfo = false
is_sound Comments = false

-- the names that are given
abbrev pub given_names : List LocalChunk → ℕ → List LocalChunk
given_names order count = take (min count 5) order

-- the names before the sound
unfoldable pub before : List LocalChunk → List LocalChunk
before [] = []
before (c ∷ cs) = cond (is_sound c) [] (c ∷ before cs)

-- the names behind the sound
unfoldable pub behind : List LocalChunk → List LocalChunk
behind [] = []
behind (c ∷ cs) = cond (is_sound c) cs (behind cs)

-- a local chunk other than the sound, written out: nothing if it is not to be written
unfoldable pub local_bytes : Parts → ℕ → LocalChunk → List ℕ
local_bytes p base Property = bytes (property p.property_order (properties p))
local_bytes p base SoundData = []
local_bytes p base DstIndex = cond (has_index p) (dsti p.options.dst_crc (first_offset p base) p.lengths) []
local_bytes p base EditedMasterInfo = bytes (diin p.pool p.raw p.tracks p.markers (info p) p.info_order)
local_bytes p base Comments = comt p.pool p.comments (info p).text

abbrev pub locals_bytes : Parts → ℕ → List LocalChunk → List ℕ
locals_bytes p base cs = flat_map (local_bytes p base) cs

-- the version of the format (01: "FVER 0x01050000")
abbrev pub version : List ℕ
version = be 4 0x0105_0000

-- FRM8's data up to the first sound byte: the form, FVER, the names before the sound, and the sound chunk's head
unfoldable pub front : Parts → ℕ → List LocalChunk → List ℕ
front p base cs =
    ascii "DSD "
    ++ chunk (ascii "FVER") version
    ++ locals_bytes p base (before cs)
    ++ sound_head p.area.sound p.area p.options.dst_crc p.lengths

-- what follows the sound: the names behind it, and the caller's chunks
unfoldable pub back : Parts → ℕ → List LocalChunk → List ℕ → List ℕ
back p base cs callers = locals_bytes p base (behind cs) ++ bytes (caller_chunks p.raw callers)
