-- The reader's value of COMT is the data without the pads. Assumes nothing.
use mathlib.Core.Path.{◌≡◌, refl}
use mathlib.Core.Bool.{true}
use mathlib.Core.List.{List, [], ◌∷◌, ◌++◌, flat_map, append_assoc}
use Prim.Native.Nat.{ℕ, ◌+◌, ◌%◌, ◌^◌, ◌<◌}
use native.Mathlib.Omega.{arith}
use lib.ListN.{length, get_or, length-append}
use lib.Seq.{take_at, drop_at}
use Rattle.chunk.specs.Number.{be}
use Rattle.chunk_names.specs.Name.{ascii, same}
use Rattle.chunk.specs.Chunk.{pad, counts}
use Rattle.tree.specs.Value.{comments, value}
use Rattle.chunk.proofs.NumberLaws.{length-be, num-be}
use Rattle.chunk.proofs.ChunkLaws.{length-pad}
use Rattle.tree.proofs.ValueLaws.{count-read, counts-long}
use Rattle.comt.specs.Comment.{Written, written_comments, comment_bytes, comt_data, has_comt, comt_value}
use Rattle.texts.specs.declared.text.TextOptions.{TextOptions}
use Rattle.comt.proofs.CommentLaws.{Fits, words_fit, comt-count}

-- comments
comments-plain : (cs : List Written) → Fits (256 ^ 4) cs → comments (length cs) (flat_map comment_bytes cs) ≡ flat_map (λ c. counts 4 c.head c.text) cs
unfolding comments comment_bytes flat_map
comments-plain [] w = refl
comments-plain (c ∷ cs) w =
    let this = counts 4 c.head c.text in
    let end = pad (length c.text) in
    let later = flat_map comment_bytes cs in
    let l = counts-long 4 c.head c.text (end ++ later) 10 w.0 w.1 in
    let long : length (this ++ end) ≡ 14 + length c.text + (14 + length c.text) % 2 = rw (length-append, length-pad, l) (omega arith) in
    rw (
      append_assoc this end later,
      count-read 4 c.head c.text (end ++ later) 10 w.0 w.1,
      take_at this (end ++ later) _ l,
      ← append_assoc this end later,
      drop_at (this ++ end) later _ long,
      comments-plain cs w.2,
    )

-- COMT, with the pads in the data and without them
pub comt-plain : (cs : List Written) → length cs < 256 ^ 2 → Fits (256 ^ 4) cs → value (ascii "FRM8") (ascii "COMT") (comt_data cs) ≡ comt_value cs
unfolding value comt_data comt_value same
comt-plain cs small fits =
    let count = be 2 (length cs) in
    let later = flat_map comment_bytes cs in
    rw (
      take_at count later 2 (length-be 2 (length cs)),
      drop_at count later 2 (length-be 2 (length cs)),
      num-be 2 (length cs) small,
      comments-plain cs fits,
    )

-- COMT, of the rows that a build is lent
pub comt-value : (pool words : List ℕ) (o : TextOptions) → ((k : ℕ) → get_or words k 0 < 2 ^ 32) → has_comt (written_comments pool words o) ≡ true
    → value (ascii "FRM8") (ascii "COMT") (comt_data (written_comments pool words o)) ≡ comt_value (written_comments pool words o)
comt-value pool words o u32 has =
    let cs = written_comments pool words o in
    comt-plain cs (omega (arith, comt-count cs has)) (words_fit pool o words u32)
