-- The data of CMPR (01: "CMPR type, one length byte, name"; "CMPR is "DSD " with "not compressed" (19 bytes) or "DST " with "DST Encoded" (16). D1
-- counts the pad inside an odd CMPR, so 20 or 16"). Assumes nothing.
use Rattle.std.specs.Prelude.{ℕ, Bool, cond, List, [], ◌++◌, length}
use Rattle.chunk_names.specs.Name.{Name, ascii}
use Rattle.chunk.specs.Chunk.{pad, counts}
use Rattle.prop_fields.specs.declared.compression.Sound.{Sound}
use Rattle.prop_fields.specs.declared.compression.Sound.TheVariants.{Dsd, Dst}

-- a compression type with its name, and under D1 with the pad
unfoldable pub compression_data : Name → List ℕ → Bool → List ℕ
compression_data kind name d1 = let plain = counts 1 kind name in plain ++ cond d1 (pad (length plain)) []

abbrev pub cmpr_data : Sound → Bool → List ℕ
cmpr_data Dsd d1 = compression_data (ascii "DSD ") (ascii "not compressed") d1
cmpr_data Dst d1 = compression_data (ascii "DST ") (ascii "DST Encoded") d1
