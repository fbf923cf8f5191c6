-- The laws of comments. Assumes nothing.
use mathlib.Core.Path.{◌≡◌, sym, ◌∙◌}
use mathlib.Core.Bool.{Bool, true, false, cond, true≢false, and-false}
use mathlib.Core.List.{List, [], ◌∷◌, ◌++◌, flat_map}
use Prim.Native.Nat.{ℕ, zero, suc, ◌+◌, ◌-◌, ◌*◌, ◌/◌, ◌^◌, ◌≤◌, ◌<◌}
use native.Mathlib.Nat.{mul-suc, mul-le-mul_left}
use native.Mathlib.Numerals.{add-one}
use native.Mathlib.Decide.{dec_le}
use native.Mathlib.Omega.{arith}
use borrow.Author.Tests.{lt-leb}
use lib.ListN.{length, take, drop, get_or, length-take, length-append}
use lib.Seq.{take-append_seam, drop-append_seam, take_all, drop-drop, get_or-take, get_or-drop}
use Rattle.chunk.specs.Number.{be}
use Rattle.chunk_names.specs.Name.{ascii}
use Rattle.chunk.specs.Chunk.{chunk}
use Rattle.chunk.specs.Rows.{first_rows, rows}
use Rattle.tree.specs.Tree.{stop, leaf, bytes}
use Rattle.chunk.proofs.NumberLaws.{length-be}
use Rattle.chunk.proofs.ChunkLaws.{length-pad, length-counts}
use Rattle.chunk.proofs.ListLaws.{flat_map-take, flat_map-bound}
use Rattle.chunk.proofs.RowsLaws.{length-rows, get_rows}
use Rattle.tree.proofs.TreeLaws.{bytes-stop, bytes-leaf}
use Rattle.texts.specs.Text.{is_written}
use Rattle.comt.specs.Comment.{comment_of, comment_head, Written, as_written, written_comment, written_comments, comment_bytes, comt_data, has_comt, comt, comt_chunk}
use Rattle.texts.specs.declared.text.TextOptions.{TextOptions}
use Rattle.comt.specs.declared.comt.Comment.{Comment}
use Rattle.texts.proofs.TextLaws.{extent_short}

pub length-comment_head : (c : Comment) → length (comment_head c) ≡ 10
unfolding comment_head
length-comment_head c = simp (length-append, length-be)

-- comments with 10 bytes before a text of fewer than n bytes
abbrev pub Fits : ℕ → List Written → Type 0
Fits n [] = Unit {0}
Fits n (c ∷ cs) = (length c.head ≡ 10) × (length c.text < n) × Fits n cs

-- such comments have room for 14 bytes, a text and a pad
comments-room : (n : ℕ) (cs : List Written) → Fits n cs → length (flat_map comment_bytes cs) ≤ (14 + n) * length cs
unfolding flat_map comment_bytes
comments-room n [] fits = omega arith
comments-room n (c ∷ cs) fits =
    simp (length-append, length-counts, length-pad) (omega (arith, fits.0, fits.1, comments-room n cs fits.2, mul-suc (14 + n) (length cs)))

module _ (pool : List ℕ) (o : TextOptions) where
  -- what a row gives
  abbrev pub of_row : List ℕ → List Written
  of_row row = written_comment pool o (comment_of row)

  -- the comments written of the first i rows
  abbrev pub first_comments : List ℕ → ℕ → List Written
  first_comments words i = flat_map of_row (take i (rows 9 words))

  -- one row more, and all rows
  pub comments-next : (words : List ℕ) (i : ℕ) → i < length words / 9
      → first_comments words (i + 1) ≡ first_comments words i ++ of_row (take (i * 9 + 9 - i * 9) (drop (i * 9) words))
  comments-next words i h =
      let nine : i * 9 + 9 - i * 9 ≡ 9 = omega arith in
      let more : i < length (rows 9 words) = omega (arith, length-rows 9 words) in
      rw (add-one, flat_map-take of_row (rows 9 words) i [] more, get_rows 9 i words h, nine)

  pub comments_all : (words : List ℕ) (i : ℕ) → length words / 9 ≤ i → first_comments words i ≡ written_comments pool words o
  unfolding written_comments
  comments_all words i h = rw (take_all i (rows 9 words) (omega (arith, length-rows 9 words)))

  -- the first row, and the others; words that make no row
  pub comments_front : (row rest : List ℕ) → length row ≡ 9 → written_comments pool (row ++ rest) o ≡ of_row row ++ written_comments pool rest o
  unfolding written_comments rows first_rows flat_map
  comments_front row rest nine =
      let n : length (row ++ rest) / 9 ≡ suc (length rest / 9) = rw length-append (omega arith) in
      let front : take 9 (row ++ rest) ≡ row = rw (sym nine) (take-append_seam row rest) in
      let back : drop 9 (row ++ rest) ≡ rest = rw (sym nine) (drop-append_seam row rest) in
      rw (n, front, back)

  pub comments_none : (rest : List ℕ) → length rest < 9 → written_comments pool rest o ≡ []
  unfolding written_comments rows first_rows flat_map
  comments_none rest few = let n : length rest / 9 ≡ 0 = omega arith in rw n

  -- a row gives at most one comment
  one : (row : List ℕ) → length (of_row row) ≤ 1
  unfolding written_comment
  one row = go (is_written o (length (as_written pool o (comment_of row)).text))
    where
      go : (b : Bool) → length (cond b (as_written pool o (comment_of row) ∷ []) []) ≤ 1
      go true = omega arith
      go false = omega arith

  pub comments-few : (words : List ℕ) (i : ℕ) → length (first_comments words i) ≤ i
  comments-few words i = omega (arith, flat_map-bound of_row 1 one (take i (rows 9 words)), length-take i (rows 9 words))

  module _ (n : ℕ) where
    -- a comment whose text has a length below n, before others
    row_fits : (row : List ℕ) (cs : List Written) → get_or row 8 0 < n → Fits n cs → Fits n (of_row row ++ cs)
    unfolding written_comment as_written comment_of
    row_fits row cs short fits = go (is_written o (length (as_written pool o (comment_of row)).text))
      where
        go : (b : Bool) → Fits n (cond b (as_written pool o (comment_of row) ∷ []) [] ++ cs)
        go true = (length-comment_head (comment_of row), omega (arith, extent_short o.rule pool (comment_of row).text), fits)
        go false = fits

    rows_fit : (i : ℕ) (words : List ℕ) → ((k : ℕ) → k < i → get_or (take 9 (drop (k * 9) words)) 8 0 < n) → Fits n (flat_map of_row (first_rows 9 i words))
    unfolding first_rows flat_map
    rows_fit zero words h = tt
    rows_fit (suc i) words h =
        row_fits (take 9 words) _ (h 0 (omega arith))
        (rows_fit i (drop 9 words) (λ k l. let next : suc k * 9 ≡ 9 + k * 9 = omega arith in rw drop-drop (rw next at (h (suc k) (omega arith)))))

    -- the comments of rows whose texts have lengths below n
    pub comments_fit : (words : List ℕ) → ((k : ℕ) → k < length words / 9 → get_or (take 9 (drop (k * 9) words)) 8 0 < n) → Fits n (written_comments pool words o)
    unfolding written_comments rows
    comments_fit words h = rows_fit (length words / 9) words h

  -- and so of words that are u32
  pub words_fit : (words : List ℕ) → ((k : ℕ) → get_or words k 0 < 2 ^ 32) → Fits (2 ^ 32) (written_comments pool words o)
  words_fit words u32 =
      comments_fit (2 ^ 32) words (λ k l. rw (get_or-take 9 (drop (k * 9) words) 8 0 (omega arith), get_or-drop (k * 9) words 8 0) (u32 (k * 9 + 8)))

-- a COMT has no more comments than its count can tell
pub comt-count : (cs : List Written) → has_comt cs ≡ true → length cs ≤ 65_535
unfolding has_comt
comt-count cs h = go (dec_le (length cs) 65_535)
  where
    go : Dec (length cs ≤ 65_535) → length cs ≤ 65_535
    go (yes few) = few
    go (no many) = absurd (true≢false (sym h ∙ rw (lt-leb (length cs) 65_535 (omega arith), and-false)))

-- whatever the count says, the data has the same length
pub length-comt_data : (k : ℕ) (cs : List Written) → length (comt_data cs) ≡ length (be 2 k ++ flat_map comment_bytes cs)
unfolding comt_data
length-comt_data k cs = simp (length-append, length-be)

-- the data of comments with texts of fewer than n bytes
pub comt_data-short : (n : ℕ) (cs : List Written) → Fits n cs → has_comt cs ≡ true → (k : ℕ)
    → length (be 2 k ++ flat_map comment_bytes cs) ≤ 2 + (14 + n) * 65_535
comt_data-short n cs fits has k =
    rw (length-append, length-be) (omega (arith, comments-room n cs fits, mul-le-mul_left (14 + n) (comt-count cs has)))

-- COMT as chunks of a tree is COMT
pub comt_tree : (pool words : List ℕ) (o : TextOptions) → bytes (comt_chunk pool words o) ≡ comt pool words o
unfolding comt_chunk comt
comt_tree pool words o = go (has_comt (written_comments pool words o)) (comt_data (written_comments pool words o))
  where
    go : (b : Bool) (content : List ℕ) → bytes (cond b (leaf (ascii "COMT") content stop) stop) ≡ cond b (chunk (ascii "COMT") content) []
    go true content = bytes-leaf (ascii "COMT") content
    go false content = bytes-stop
