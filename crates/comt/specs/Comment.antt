-- Comments (01: "COMT is a u16 count, then per comment year u16, month, day, hour, minutes (bytes), kind u16 (0 general, 1 channel, 2 sound source,
-- 3 file history), reference u16 (0 for kind 0), text count u32, text, pad if odd. Empty converted texts are skipped unless empty text is on; no
-- comment left, no COMT"). Assumes nothing.
use Rattle.std.specs.Prelude.{ℕ, Bool, cond, not, ◌&&◌, length, get_or, leb, eqb}
use mathlib.Core.List.{List, [], ◌∷◌, ◌++◌, flat_map}
use Rattle.chunk.specs.Number.{be}
use Rattle.chunk_names.specs.Name.{ascii}
use Rattle.chunk.specs.Chunk.{pad, chunk, counts}
use Rattle.chunk.specs.Rows.{rows}
use Rattle.tree.specs.Tree.{Chunks, stop, leaf}
use Rattle.texts.specs.Extent.{part}
use Rattle.texts.specs.Text.{text_bytes, is_written}
use Rattle.texts.specs.declared.text.TextOptions.{TextOptions}
use Rattle.comt.specs.declared.comt.Comment.{Comment}

-- the comment of a row of nine words
unfoldable pub comment_of : List ℕ → Comment
comment_of row = record {
  year = get_or row 0 0;
  month = get_or row 1 0;
  day = get_or row 2 0;
  hour = get_or row 3 0;
  minutes = get_or row 4 0;
  kind = get_or row 5 0;
  reference = get_or row 6 0;
  text = record { start = get_or row 7 0; length = get_or row 8 0 };
}

-- a general comment has no reference
unfoldable pub reference_of : Comment → ℕ
reference_of c = cond (eqb c.kind 0) 0 c.reference

-- a comment's 10 bytes before its text; of a number that passes its field, the low bytes
unfoldable pub comment_head : Comment → List ℕ
comment_head c =
    be 2 c.year ++ be 1 c.month ++ be 1 c.day ++ be 1 c.hour ++ be 1 c.minutes ++ be 2 c.kind ++ be 2 (reference_of c)

-- a comment as it is written: its 10 bytes and its converted text
pub record Written : Type 0 where
  pub head : List ℕ
  pub text : List ℕ

unfoldable pub as_written : List ℕ → TextOptions → Comment → Written
as_written pool o c = record { head = comment_head c; text = text_bytes o.rule (part pool c.text) }

-- a comment, if it is written
unfoldable pub written_comment : List ℕ → TextOptions → Comment → List Written
written_comment pool o c = let w = as_written pool o c in cond (is_written o (length w.text)) (w ∷ []) []

-- the comments that are written, of the rows that a build is lent
unfoldable pub written_comments : List ℕ → List ℕ → TextOptions → List Written
written_comments pool words o = flat_map (λ row. written_comment pool o (comment_of row)) (rows 9 words)

-- a comment as the file has it, with a pad after an odd text
unfoldable pub comment_bytes : Written → List ℕ
comment_bytes c = counts 4 c.head c.text ++ pad (length c.text)

-- the data of COMT
unfoldable pub comt_data : List Written → List ℕ
comt_data cs = be 2 (length cs) ++ flat_map comment_bytes cs

-- whether there is a COMT: comments, and no more than its count can tell (01, refusal 36)
unfoldable pub has_comt : List Written → Bool
has_comt cs = not (eqb (length cs) 0) && leb (length cs) 65_535

-- COMT, or nothing
unfoldable pub comt : List ℕ → List ℕ → TextOptions → List ℕ
comt pool words o = let cs = written_comments pool words o in cond (has_comt cs) (chunk (ascii "COMT") (comt_data cs)) []

-- the same as chunks of a tree
unfoldable pub comt_chunk : List ℕ → List ℕ → TextOptions → Chunks
comt_chunk pool words o = let cs = written_comments pool words o in cond (has_comt cs) (leaf (ascii "COMT") (comt_data cs) stop) stop

-- what the old reader is to get of COMT: the count and the comments, none with a pad
unfoldable pub comt_value : List Written → List ℕ
comt_value cs = be 2 (length cs) ++ flat_map (λ c. counts 4 c.head c.text) cs
