-- What the numbers of the local chunks mean. Assumes nothing.
use Rattle.std.specs.Prelude.{ℕ, cond, List, map, eqb}
use Rattle.chunk_names.specs.declared.LocalChunk.{LocalChunk}
use Rattle.chunk_names.specs.declared.LocalChunk.TheVariants.{Property, SoundData, DstIndex, EditedMasterInfo, Comments}

-- 0 is PROP, 1 the sound, 2 is DSTI, 3 is DIIN, any other is COMT
abbrev pub local_chunk_of : ℕ → LocalChunk
local_chunk_of number =
    cond (eqb number 0) Property (cond (eqb number 1) SoundData (cond (eqb number 2) DstIndex (cond (eqb number 3) EditedMasterInfo Comments)))

abbrev pub local_order_of : List ℕ → List LocalChunk
local_order_of numbers = map local_chunk_of numbers
