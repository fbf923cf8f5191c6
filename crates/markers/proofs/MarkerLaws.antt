-- The laws of MARK. Assumes nothing.
use mathlib.Core.Path.{◌≡◌}
use mathlib.Core.Bool.{Bool, true, false, cond}
use mathlib.Core.List.{List, []}
use Prim.Native.Nat.{ℕ, ◌+◌, ◌-◌, ◌≤◌, min}
use native.Mathlib.Omega.{arith}
use lib.ListN.{length, length-append, length-take, length-drop}
use Rattle.chunk.specs.Chunk.{pad}
use Rattle.frame_time.specs.Time.{time_bytes}
use Rattle.chunk.proofs.NumberLaws.{length-be}
use Rattle.chunk.proofs.ChunkLaws.{length-pad, length-counts}
use Rattle.texts.specs.Extent.{part}
use Rattle.texts.specs.Text.{text_pad}
use Rattle.texts.specs.declared.extent.Extent.{Extent}
use Rattle.texts.specs.declared.text.TextOptions.{TextOptions}
use Rattle.markers.specs.Marker.{mark_head, mark_data}
use Rattle.markers.specs.declared.marker.Marker.{Marker}
use Rattle.markers.specs.declared.marker.Marking.{Marking}

-- a pad that may be counted is at most one byte
pub text-pad-short : (o : TextOptions) (n : ℕ) → length (text_pad o n) ≤ 1
unfolding text_pad
text-pad-short o n = go o.text_pad_counted
  where
    go : (b : Bool) → length (cond b (pad n) []) ≤ 1
    go true = omega (arith, length-pad n)
    go false = omega arith

pub length-mark_head : (how : Marking) (m : Marker) → length (mark_head how m) ≡ 18
unfolding mark_head time_bytes
length-mark_head how m = simp (length-append, length-be)

-- MARK's data has room for 22 bytes, a text and a pad
pub length-mark_data : (how : Marking) (m : Marker) (text : List ℕ) → length (mark_data how m text) ≤ 23 + length text
unfolding mark_data
length-mark_data how m text =
    rw (length-append, length-counts, length-mark_head) (omega (arith, text-pad-short how.text (length text)))

-- how many elements of a pool an extent names
pub length_places : (pool : List ℕ) (e : Extent) → min (e.start + e.length) (length pool) - min e.start (length pool) ≡ length (part pool e)
unfolding part
length_places pool e = rw (length-take, length-drop) (omega arith)
