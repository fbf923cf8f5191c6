-- THE FILE OF A BUILD, as a tree of chunks, and its bytes before and behind the sound (01: "The file is FRM8 (form "DSD "), FVER 0x01050000, local chunks in the
-- given order, caller chunks. FRM8's size is 20 plus what the rest occupies"). That header, sound and trailer are the bytes of the tree is a law (FileLaws).
-- Assumes nothing.
use Rattle.std.specs.Prelude.{◌≡◌, cond, List, ◌++◌, ℕ, ◌+◌, length}
use Rattle.chunk.specs.Number.{be}
use Rattle.chunk_names.specs.Name.{ascii}
use Rattle.tree.specs.Tree.{Chunks, stop, leaf, node, join, each}
use Rattle.chunk_names.specs.declared.LocalChunk.{LocalChunk}
use Rattle.chunk_names.specs.declared.LocalChunk.TheVariants.{Property, SoundData, DstIndex, EditedMasterInfo, Comments}
use Rattle.comt.specs.Comment.{comt_chunk}
use Rattle.dst.specs.Frame.{Frame}
use Rattle.prop.specs.Property.{property}
use Rattle.master_info.specs.Diin.{diin}
use Rattle.build_options.specs.Inputs.{Inputs}
use Rattle.file_tree.specs.Parts.{Parts, parts, properties, info, has_index, index_of}
use Rattle.file_tree.specs.Sound.{sound_chunk, sound_size}
use Rattle.caller_chunks.specs.Caller.{caller_chunks}
use Rattle.file_tree.specs.Sides.{given_names, version, front, back}

-- the names of the local chunks that are given
abbrev pub given : Inputs → List LocalChunk
given x = given_names x.local_order x.local_count

-- FRM8's data before the sound, and what follows the sound, with a place for the first sound byte
abbrev pub front_of : Inputs → ℕ → List ℕ
front_of x base = front (parts x) base (given x)

abbrev pub back_of : Inputs → ℕ → List ℕ
back_of x base = back (parts x) base (given x) x.callers

-- the place of the first sound byte in the file: past FRM8's name and size and its data before the sound, whose length no place changes
unfoldable pub place : Inputs → ℕ
place x = 12 + length (front_of x 0)

-- how many bytes the sound has
abbrev pub sound_length : Inputs → ℕ
sound_length x = sound_size x.area.sound x.area x.options.dst_crc x.lengths

-- FRM8's data size
abbrev pub form_size : Inputs → ℕ
form_size x = length (front_of x (place x)) + sound_length x + length (back_of x (place x))

-- THE HEADER, up to the first sound byte, and THE TRAILER, from the inputs alone
unfoldable pub header_of : Inputs → List ℕ
header_of x = ascii "FRM8" ++ be 8 (form_size x) ++ front_of x (place x)

unfoldable pub trailer_of : Inputs → List ℕ
trailer_of x = back_of x (place x)

-- a local chunk, if it is to be written; the sound chunk is that of the frames
unfoldable pub local_chunk : Parts → ℕ → List Frame → LocalChunk → Chunks
local_chunk p base fs Property = property p.property_order (properties p)
local_chunk p base fs SoundData = sound_chunk p.area.sound p.options.dst_crc fs
local_chunk p base fs DstIndex = cond (has_index p) (leaf (ascii "DSTI") (index_of p base) stop) stop
local_chunk p base fs EditedMasterInfo = diin p.pool p.raw p.tracks p.markers (info p) p.info_order
local_chunk p base fs Comments = comt_chunk p.pool p.comments (info p).text

-- the chunks in FRM8, after its form
unfoldable pub form_chunks : Inputs → List Frame → Chunks
form_chunks x fs =
    leaf (ascii "FVER") version (join (each (local_chunk (parts x) (place x) fs) (given x)) (caller_chunks x.raw x.callers))

-- THE FILE, from inputs and frames
unfoldable pub file_of : Inputs → List Frame → Chunks
file_of x fs = node (ascii "FRM8") (ascii "DSD ") (form_chunks x fs) stop

-- the orders have as many places as their arrays
pub record Ordered (x : Inputs) : Type 0 where
  pub property : length x.property_order ≡ 5
  pub info : length x.info_order ≡ 4
  pub local : length x.local_order ≡ 5
