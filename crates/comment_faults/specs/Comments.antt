-- 34: "Comment month over 12, day 31, hour 23 or minutes 59 (34 to 36: the first at fault)"; a year that passes its field is one too. 35: "Reference over the channels, 2 or
-- 4 for kinds 1, 2, 3"; a kind above 3 is one too. 36: "A 65,536th comment would be written". Assumes nothing.
use Rattle.std.specs.Prelude.{ℕ, Bool, false, cond, ◌&&◌, ◌||◌, List, [], ◌∷◌, eqb, leb, ltb, length}
use Rattle.texts.specs.Extent.{part}
use Rattle.texts.specs.Text.{text_bytes, is_written}
use Rattle.comt.specs.Comment.{comment_of}
use Rattle.texts.specs.declared.text.TextOptions.{TextOptions}
use Rattle.comt.specs.declared.comt.Comment.{Comment}
use Rattle.refusal.specs.declared.verdict.Refusal.TheVariants.{CommentDate, CommentReference, CommentsCount}
use Rattle.rows.specs.declared.row.Row.TheVariants as row
use Rattle.refusal.specs.Verdict.{Verdict, refuse_if, first_of}
use Rattle.refusal.specs.Below.{first_refused, how_many}
use Rattle.rows.specs.Row.{row_at, count_of_rows}

abbrev pub date_wrong : Comment → Bool
date_wrong c = ltb 65_535 c.year || (ltb 12 c.month || (ltb 31 c.day || (ltb 23 c.hour || ltb 59 c.minutes)))

-- the largest reference of the kinds 1 (a channel), 2 (a sound source) and 3 (file history)
abbrev pub most_reference : ℕ → ℕ → ℕ
most_reference kind channels = cond (eqb kind 1) channels (cond (eqb kind 2) 2 4)

abbrev pub reference_wrong : Comment → ℕ → Bool
reference_wrong c channels = cond (eqb c.kind 0) false (ltb 3 c.kind || ltb (most_reference c.kind channels) c.reference)

-- whether a comment will be written: its converted text is not empty, or empty text is on
abbrev pub is_written_comment : List ℕ → TextOptions → Comment → Bool
is_written_comment pool options c = is_written options (length (text_bytes options.rule (part pool c.text)))

-- 34 to 36 of a comment, after so many that will be written
abbrev pub fault_of : ℕ → Comment → Bool → ℕ → Verdict
fault_of channels c written before =
    first_of
    (refuse_if (date_wrong c) CommentDate
    ∷ refuse_if (reference_wrong c channels) CommentReference
    ∷ refuse_if (written && leb 65_535 before) CommentsCount
    ∷ [])

module _ (comments pool : List ℕ) (options : TextOptions) (channels : ℕ) where
  abbrev pub comment_at : ℕ → Comment
  comment_at k = comment_of (row_at 9 comments k)

  abbrev pub written_at : ℕ → Bool
  written_at k = is_written_comment pool options (comment_at k)

  -- 34 to 36 of comment k
  abbrev pub comment_fault : ℕ → Verdict
  comment_fault k = fault_of channels (comment_at k) (written_at k) (how_many written_at k)

  -- the first comment at fault
  unfoldable pub comment_faults : Verdict
  comment_faults = first_refused comment_fault (count_of_rows row.Comment comments)
