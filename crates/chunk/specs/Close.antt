-- A chunk whose size is filled in last (02's fifth job, "write name and data first, then the eight size bytes from what was written").
-- Only the appends of chunks do this inside; what they promise is not said with it. Assumes nothing.
use Rattle.std.specs.Prelude.{◌≡◌, ℕ, ◌+◌, ◌%◌, ◌^◌, ◌<◌, List, length}
use Rattle.chunk.specs.Append.{overlay, moved}
use Rattle.chunk.specs.Number.{be}
use Rattle.chunk.specs.Chunk.{pad}

-- From the buffer xs and the place a of its size, a chunk with n bytes of data was closed: in ys the eight bytes at a are n, and the pad for
-- n stands n bytes behind them; all else, the data between them too, is as in xs. The cursor is behind the pad, at b.
pub record Closed (xs : List ℕ) (a n : ℕ) (ys : List ℕ) (b : ℕ) : Type 0 where
  pub short : length xs < 2 ^ 63
  pub place : b ≡ moved a (8 + n + n % 2)
  pub buffer : ys ≡ overlay (overlay xs a (be 8 n)) (a + (8 + n)) (pad n)
