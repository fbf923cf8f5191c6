-- The laws of DIAR and DITI. Assumes nothing.
use mathlib.Core.Path.{◌≡◌}
use mathlib.Core.Bool.{Bool, true, false, cond}
use mathlib.Core.List.{List, [], ◌++◌, append_assoc, append-nil}
use mathlib.Core.Option.{none}
use Prim.Native.Nat.{ℕ, ◌+◌, ◌%◌, ◌≤◌}
use native.Mathlib.Omega.{arith}
use lib.ListN.{length, length-append}
use Rattle.chunk.specs.Number.{be}
use Rattle.chunk_names.specs.Name.{Name}
use Rattle.chunk.specs.Chunk.{pad, chunk, counts}
use Rattle.tree.specs.Tree.{stop, leaf, bytes}
use Rattle.tree.specs.Reader.{Reader, Shaped}
use Rattle.chunk.proofs.ChunkLaws.{length-pad, pad-even, pad_parity, length-counts}
use Rattle.tree.proofs.TreeLaws.{bytes-stop, bytes-leaf, shaped_if}
use Rattle.texts.specs.Extent.{part}
use Rattle.texts.specs.Text.{text_bytes, text_pad, is_written}
use Rattle.diin_texts.specs.DiinText.{diin_text_data, given_text_bytes, diin_text, given_text_chunk, diin_text_chunk}
use Rattle.diin_texts.specs.DiinText.{Text}
use Rattle.std.specs.Prelude.{None, Some}
use Rattle.texts.specs.declared.text.TextOptions.{TextOptions}

-- the data of a text, with the pad in it or without it
abbrev content : List ℕ → Bool → List ℕ
content text padCounted = counts 4 [] text ++ cond padCounted (pad (length text)) []

length-content : (text : List ℕ) (b : Bool) → length (content text b) ≡ 4 + length text + cond b (length text % 2) 0
length-content text true = simp (length-append, length-counts, length-pad)
length-content text false = simp (length-append, length-counts)

-- the data has room for a count, a text and a pad
pub length-diin-text : (text : List ℕ) (o : TextOptions) → length (diin_text_data text o) ≤ 5 + length text
unfolding diin_text_data text_pad
length-diin-text text o = go o.text_pad_counted
  where
    go : (b : Bool) → length (content text b) ≤ 5 + length text
    go true = omega (arith, length-content text true)
    go false = omega (arith, length-content text false)

-- With the pad counted or not, the bytes are the same but for the size, which counts it or not.
pub diin-text-bytes : (name : Name) (text : List ℕ) (o : TextOptions)
    → chunk name (diin_text_data text o)
    ≡ name ++ be 8 (4 + length text + cond o.text_pad_counted (length text % 2) 0) ++ be 4 (length text) ++ text ++ pad (length text)
unfolding chunk diin_text_data text_pad counts
diin-text-bytes name text o = go o.text_pad_counted
  where
    go : (b : Bool) → chunk name (content text b) ≡ name ++ be 8 (4 + length text + cond b (length text % 2) 0) ++ be 4 (length text) ++ text ++ pad (length text)
    go true = rw (length-content text true, pad-even (4 + length text + length text % 2) (omega arith)) (simp (append_assoc, append-nil))
    go false = rw (length-content text false, pad_parity (4 + length text + 0) (length text) (omega arith)) (simp (append_assoc, append-nil))

-- DIAR and DITI as chunks of a tree have the same bytes
given-text_tree : (name : Name) (text : List ℕ) (o : TextOptions) → bytes (given_text_chunk name text o) ≡ given_text_bytes name text o
unfolding given_text_chunk given_text_bytes
given-text_tree name text o = go (is_written o (length text))
  where
    go : (b : Bool) → bytes (cond b (leaf name (diin_text_data text o) stop) stop) ≡ cond b (chunk name (diin_text_data text o)) []
    go true = bytes-leaf name (diin_text_data text o)
    go false = bytes-stop

pub diin-text_tree : (name : Name) (pool : List ℕ) (text : Text) (o : TextOptions) → bytes (diin_text_chunk name pool text o) ≡ diin_text name pool text o
diin-text_tree name pool None o = bytes-stop
diin-text_tree name pool (Some text) o = given-text_tree name (text_bytes o.rule (part pool text)) o

-- and have the shape of a reader for whom the name is no container
pub diin-text_shaped : (r : Reader) (parent name : Name) → length name ≡ 4 → r.inner parent name ≡ none
    → (pool : List ℕ) (text : Text) (o : TextOptions) → Shaped r parent (diin_text_chunk name pool text o)
unfolding given_text_chunk
diin-text_shaped r parent name four plain pool None o = tt
diin-text_shaped r parent name four plain pool (Some e) o =
    let text = text_bytes o.rule (part pool e) in
    shaped_if r parent (is_written o (length text)) (leaf name (diin_text_data text o) stop) (four, plain, tt)
