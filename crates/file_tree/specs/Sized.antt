-- The sound chunk's head, and FRM8's data up to the first sound byte, where the sound's length is known.
-- Only functions that a build calls inside promise these; no promise of a released function cites them. Assumes nothing.
use Rattle.std.specs.Prelude.{List, ◌++◌, ℕ, length}
use Rattle.chunk.specs.Number.{be}
use Rattle.chunk_names.specs.Name.{ascii}
use Rattle.chunk.specs.Chunk.{chunk}
use Rattle.chunk_names.specs.declared.LocalChunk.{LocalChunk}
use Rattle.dst.specs.Sized.{head_sized}
use Rattle.prop_fields.specs.declared.compression.Sound.{Sound}
use Rattle.prop_fields.specs.declared.compression.Sound.TheVariants.{Dsd, Dst}
use Rattle.file_tree.specs.Parts.{Parts}
use Rattle.file_tree.specs.Sides.{before, locals_bytes, version}

-- `sound_head`, of so many bytes of sound in so many frames
unfoldable pub sound_head_sized : Sound → ℕ → ℕ → List ℕ
sound_head_sized Dsd size frames = ascii "DSD " ++ be 8 size
sound_head_sized Dst size frames = head_sized size frames

-- `front`, before so many bytes of sound
unfoldable pub front_sized : Parts → ℕ → ℕ → List LocalChunk → List ℕ
front_sized p size base cs =
    ascii "DSD "
    ++ chunk (ascii "FVER") version
    ++ locals_bytes p base (before cs)
    ++ sound_head_sized p.area.sound size (length p.lengths)
