-- What holds of comments that are not refused as 36: no more will be written than COMT's count can tell. Assumes nothing.
use mathlib.Core.Path.{◌≡◌, refl}
use mathlib.Core.Bool.{Bool, true, false, cond, ◌&&◌, true≢false}
use mathlib.Core.List.{List, [], ◌∷◌, flat_map}
use Prim.Native.Nat.{ℕ, zero, suc, ◌+◌, ◌-◌, ◌*◌, ◌/◌, ◌≤◌, ◌<◌}
use native.Mathlib.Nat.{le_refl}
use native.Mathlib.Decide.{dec_le}
use native.Mathlib.Omega.{arith}
use native.Mathlib.Numerals.{add-one}
use lib.Dec.{leb}
use lib.ListN.{length, length-append}
use borrow.Author.Tests.{le-leb}
use Rattle.texts.specs.Text.{is_written}
use Rattle.comt.specs.Comment.{written_comment, written_comments, as_written, comment_of}
use Rattle.texts.specs.declared.text.TextOptions.{TextOptions}
use Rattle.comt.specs.declared.comt.Comment.{Comment}
use Rattle.comt.proofs.CommentLaws.{first_comments, comments-next, comments_all}
use Rattle.refusal.specs.Below.{below, how_many}
use Rattle.rows.specs.Row.{row_at}
use Rattle.comment_faults.specs.Comments.{is_written_comment, date_wrong, reference_wrong, written_at, comment_at, comment_fault, comment_faults}
use Rattle.refusal.specs.declared.verdict.Refusal.TheVariants.{CommentDate, CommentReference, CommentsCount}
use Rattle.std.specs.Prelude.{Ok}
use Rattle.refusal.proofs.VerdictLaws.{after, if-accepted, none-refused}

-- one more at most 65,535 times
few : (w : ℕ → Bool) (n : ℕ) → ((k : ℕ) → k < n → (w k && leb 65_535 (how_many w k)) ≡ false) → how_many w n ≤ 65_535
unfolding below
few w zero h = omega arith
few w (suc n) h = go (w n) (h n (omega arith)) (few w n (λ k l. h k (omega arith))) (dec_le 65_535 (how_many w n))
  where
    go : (b : Bool) → (b && leb 65_535 (how_many w n)) ≡ false → how_many w n ≤ 65_535 → Dec (65_535 ≤ how_many w n) → how_many w n + cond b 1 0 ≤ 65_535
    go false e most d = omega arith
    go true e most (yes full) = absurd (true≢false (rw (le-leb 65_535 (how_many w n) full) at e))
    go true e most (no room) = omega arith

module _ (comments pool : List ℕ) (options : TextOptions) (channels : ℕ) where
  abbrev w : ℕ → Bool
  w k = written_at comments pool options channels k

  one : (c : Comment) → length (written_comment pool options c) ≡ cond (is_written_comment pool options c) 1 0
  unfolding written_comment as_written
  one c = go (is_written options (length (as_written pool options c).text))
    where
      go : (b : Bool) → length (cond b (as_written pool options c ∷ []) []) ≡ cond b 1 0
      go true = refl
      go false = refl

  step : (i : ℕ) → i < length comments / 9
      → length (first_comments pool options comments (i + 1)) ≡ length (first_comments pool options comments i) + cond (w i) 1 0
  step i h =
      let nine : i * 9 + 9 - i * 9 ≡ 9 = omega arith in
      rw (comments-next pool options comments i h, nine, length-append, one (comment_of (row_at 9 comments i)))

  -- those that will be written, of the first i
  counted : (i : ℕ) → i ≤ length comments / 9 → length (first_comments pool options comments i) ≡ how_many w i
  unfolding below flat_map
  counted zero h = refl
  counted (suc i) h = let s = step i (omega arith) in rw (counted i (omega arith)) at (rw add-one at s)

  -- 36 of comment k
  at : (k : ℕ) → comment_fault comments pool options channels k ≡ Ok tt → (w k && leb 65_535 (how_many w k)) ≡ false
  at k e =
      let c = comment_at comments pool options channels k in
      if-accepted (w k && leb 65_535 (how_many w k)) CommentsCount (after (reference_wrong c channels) CommentReference (after (date_wrong c) CommentDate e).1).1

  pub few-written : comment_faults comments pool options channels ≡ Ok tt → length (written_comments pool comments options) ≤ 65_535
  unfolding comment_faults
  few-written e =
      let n = length comments / 9 in
      let all : length (written_comments pool comments options) ≡ how_many w n = rw (← comments_all pool options comments n (le_refl n)) (counted n (le_refl n)) in
      let most = few w n (λ k l. at k (none-refused (comment_fault comments pool options channels) n e k l)) in
      rw all most
