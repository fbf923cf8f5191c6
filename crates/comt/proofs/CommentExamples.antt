-- Comments, worked out by the definitions: a COMT, and what a reader gets of it. Assumes nothing.
use mathlib.Core.Path.{◌≡◌, refl}
use mathlib.Core.Bool.{false}
use mathlib.Core.List.{List, [], ◌∷◌, ◌++◌, flat_map}
use Prim.Native.Nat.{ℕ}
use Rattle.chunk.specs.Number.{be, num}
use Rattle.chunk_names.specs.Name.{ascii, same}
use Rattle.chunk.specs.Chunk.{pad, chunk, counts}
use Rattle.tree.specs.Value.{comments, value}
use Rattle.chunk.specs.Rows.{first_rows, rows}
use Rattle.texts.specs.Extent.{part}
use Rattle.texts.specs.Text.{printable, passes, substitute, text_byte, text_bytes, text_pad, is_written}
use Rattle.comt.specs.Comment.{comment_of, reference_of, comment_head, as_written, written_comment, written_comments, comment_bytes, comt_data, has_comt, comt}
use Rattle.texts.proofs.TextExamples.{pool, options}

-- a general comment, whose reference is not written; one of which nothing is left; one of kind 3 with an odd text; and the beginning of a row
words : List ℕ
words =
    2024 ∷ 6 ∷ 11 ∷ 12 ∷ 34 ∷ 0 ∷ 9 ∷ 0 ∷ 3 ∷ (2024 ∷ 6 ∷ 11 ∷ 12 ∷ 34 ∷ 0 ∷ 0 ∷ 6 ∷ 1 ∷ (1 ∷ 2 ∷ 3 ∷ 4 ∷ 5 ∷ 3 ∷ 4 ∷ 3 ∷ 3 ∷ (2024 ∷ 6 ∷ [])))

two-comments : comt pool words (options false)
    ≡ ascii "COMT" ++ (0 ∷ 0 ∷ 0 ∷ 0 ∷ 0 ∷ 0 ∷ 0 ∷ 36 ∷ 0 ∷ 2 ∷ [])
    ++ (7 ∷ 232 ∷ 6 ∷ 11 ∷ 12 ∷ 34 ∷ 0 ∷ 0 ∷ 0 ∷ 0 ∷ 0 ∷ 0 ∷ 0 ∷ 2 ∷ []) ++ ascii "Om"
    ++ (0 ∷ 1 ∷ 2 ∷ 3 ∷ 4 ∷ 5 ∷ 0 ∷ 3 ∷ 0 ∷ 4 ∷ 0 ∷ 0 ∷ 0 ∷ 3 ∷ []) ++ ascii "odd" ++ (0 ∷ [])
unfolding pool words comt comt_data has_comt written_comments written_comment as_written comment_of comment_head reference_of comment_bytes rows first_rows text_pad counts is_written text_bytes text_byte passes substitute printable part flat_map chunk pad be
two-comments = refl

-- what a reader gets of it: the same without the pad
two-comments-read : value (ascii "FRM8") (ascii "COMT") (comt_data (written_comments pool words (options false)))
    ≡ (0 ∷ 2 ∷ [])
    ++ (7 ∷ 232 ∷ 6 ∷ 11 ∷ 12 ∷ 34 ∷ 0 ∷ 0 ∷ 0 ∷ 0 ∷ 0 ∷ 0 ∷ 0 ∷ 2 ∷ []) ++ ascii "Om"
    ++ (0 ∷ 1 ∷ 2 ∷ 3 ∷ 4 ∷ 5 ∷ 0 ∷ 3 ∷ 0 ∷ 4 ∷ 0 ∷ 0 ∷ 0 ∷ 3 ∷ []) ++ ascii "odd"
unfolding pool words comt_data written_comments written_comment as_written comment_of comment_head reference_of comment_bytes rows first_rows text_pad counts is_written text_bytes text_byte passes substitute printable part flat_map pad be num same value comments
two-comments-read = refl
