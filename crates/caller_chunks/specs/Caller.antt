-- The caller's own chunks, which end the file (01: "local chunks in the given order, caller chunks"). Assumes nothing.
use Rattle.std.specs.Prelude.{List, ℕ, get_or}
use Rattle.chunk.specs.Number.{be}
use Rattle.chunk.specs.Rows.{rows}
use Rattle.tree.specs.Tree.{Chunks, stop, leaf, each}
use Rattle.texts.specs.Extent.{part}

-- of a row of three words: the name's four bytes as one number, and the extent of the data
unfoldable pub caller_chunk : List ℕ → List ℕ → Chunks
caller_chunk raw row = leaf (be 4 (get_or row 0 0)) (part raw (record { start = get_or row 1 0; length = get_or row 2 0 })) stop

unfoldable pub caller_chunks : List ℕ → List ℕ → Chunks
caller_chunks raw words = each (caller_chunk raw) (rows 3 words)
