-- Where a cursor comes to from 0 tells whether a chunk was written. Assumes nothing.
use mathlib.Core.Path.{◌≡◌, refl}
use mathlib.Core.Bool.{Bool, true, false, cond, not}
use mathlib.Core.List.{List, [], ◌++◌}
use Prim.Native.Nat.{ℕ}
use native.Mathlib.Omega.{arith}
use lib.Dec.{eqb}
use lib.ListN.{length}
use borrow.Author.Tests.{ne_eqb}
use Rattle.chunk.specs.Append.{moved}
use Rattle.chunk_names.specs.Name.{Name, ascii}
use Rattle.chunk.specs.Chunk.{chunk, occupied}
use Rattle.comt.specs.Comment.{written_comments, comt_data, has_comt, comt}
use Rattle.tree.specs.Tree.{Chunks, stop, node, bytes}
use Rattle.chunk_names.specs.declared.InfoChunk.{InfoChunk}
use Rattle.texts.specs.declared.text.TextOptions.{TextOptions}
use Rattle.chunk.proofs.ChunkLaws.{length-chunk}
use Rattle.tree.proofs.TreeLaws.{bytes-stop, bytes-node}
use Rattle.master_info.specs.Diin.{info_chunks, has_diin, diin}
use Rattle.master_info.specs.declared.diin.Info.{Info}

-- the cursor is not at 0 any more after these bytes
abbrev moves : List ℕ → Bool
moves bs = not (eqb (moved 0 (length bs)) 0)

module _ (name : Name) (four : length name ≡ 4) where
  -- a chunk that may be left out
  chunk-told : (b : Bool) (content : List ℕ) → moves (cond b (chunk name content) []) ≡ b
  unfolding occupied
  chunk-told true content = rw (ne_eqb (moved 0 (length (chunk name content))) 0 (λ e. omega (arith, e, length-chunk name content four)))
  chunk-told false content = refl

  -- and so a container
  node-told : (b : Bool) (form : List ℕ) (inside : Chunks) → moves (bytes (cond b (node name form inside stop) stop)) ≡ b
  node-told true form inside = rw bytes-node (chunk-told true (form ++ bytes inside))
  node-told false form inside = rw bytes-stop

pub comt-told : (pool words : List ℕ) (o : TextOptions) → moves (comt pool words o) ≡ has_comt (written_comments pool words o)
unfolding comt
comt-told pool words o = let cs = written_comments pool words o in chunk-told (ascii "COMT") refl (has_comt cs) (comt_data cs)

pub diin-told : (pool raw tracks markers : List ℕ) (info : Info) (order : List InfoChunk)
    → moves (bytes (diin pool raw tracks markers info order)) ≡ has_diin pool raw tracks markers info order
unfolding diin
diin-told pool raw tracks markers info order =
    node-told (ascii "DIIN") refl (has_diin pool raw tracks markers info order) [] (info_chunks pool raw tracks markers info order)
