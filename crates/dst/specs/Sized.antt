-- The DST chunk up to its first frame, where the units' bytes are known.
-- Only `head_sized`, which `head` and a build call inside, promises this; no promise of a released function cites it. Assumes nothing.
use Rattle.std.specs.Prelude.{ℕ, List, ◌++◌}
use Rattle.chunk.specs.Append.{moved}
use Rattle.chunk.specs.Number.{be}
use Rattle.chunk_names.specs.Name.{ascii}
use Rattle.dst.specs.Head.{frte}

-- `head`, of so many frames whose units have so many bytes together
unfoldable pub head_sized : ℕ → ℕ → List ℕ
head_sized bytes frames = ascii "DST " ++ be 8 (moved 18 bytes) ++ frte frames
