-- The laws of CMPR's data. Assumes nothing.
use mathlib.Core.Path.{◌≡◌, sym, ◌∙◌}
use mathlib.Core.Bool.{true, false}
use mathlib.Core.List.{List, [], ◌∷◌, ◌++◌, append_assoc, append-nil}
use Prim.Native.Nat.{ℕ, ◌+◌, ◌%◌}
use native.Mathlib.Omega.{arith}
use lib.ListN.{length}
use Rattle.chunk.specs.Number.{be}
use Rattle.chunk_names.specs.Name.{Name}
use Rattle.chunk.specs.Chunk.{pad, counts}
use Rattle.chunk.proofs.ChunkLaws.{length-counts}
use Rattle.prop_fields.specs.Compression.{compression_data}

-- a compression type, as it is written
module _ (kind : Name) (name : List ℕ) where
  compression-plain : kind ++ (length name % 256 ∷ []) ++ name ≡ counts 1 kind name
  unfolding counts be
  compression-plain = append_assoc kind (length name % 256 ∷ []) name

  pub compression_d1 : length kind ≡ 4 → kind ++ (length name % 256 ∷ []) ++ name ++ pad (5 + length name) ≡ compression_data kind name true
  unfolding compression_data
  compression_d1 four =
      let long : length (counts 1 kind name) ≡ 5 + length name = omega (arith, length-counts 1 kind name) in
      rw (compression-plain, long)

  pub compression_no_d1 : kind ++ (length name % 256 ∷ []) ++ name ≡ compression_data kind name false
  unfolding compression_data
  compression_no_d1 = compression-plain ∙ sym (append-nil (counts 1 kind name))
