-- The laws of the tracks' spans, one more at a time. Assumes nothing.
use mathlib.Core.Path.{◌≡◌, sym, ◌∙◌}
use mathlib.Core.List.{List, [], ◌∷◌, ◌++◌, map}
use Prim.Native.Nat.{ℕ, suc, ◌+◌, ◌-◌, ◌*◌, ◌/◌, ◌≤◌, ◌<◌}
use native.Mathlib.Omega.{arith}
use lib.ListN.{length, take, drop, drop_of_length-le, get_or-map, length-append}
use lib.Seq.{take_all, drop-cons, take-append_seam, drop-append_seam}
use Rattle.chunk.specs.Rows.{first_rows, rows}
use Rattle.chunk.proofs.ListLaws.{flat_map-append, flat_map-one}
use Rattle.chunk.proofs.RowsLaws.{get_rows, row_words, length_mapped, mapped_next}
use Rattle.tracks.specs.Track.{span_of, span_at, spans, clip, kept, clipped}
use Rattle.tracks.specs.declared.track.Span.{Span}
use Rattle.tracks.proofs.RowLaws.{row-whole}

module _ (words : List ℕ) (i : ℕ) where
  -- one track more
  pub spans-next : i < length words / 4 → take (i + 1) (spans words) ≡ take i (spans words) ++ (span_at words i ∷ [])
  unfolding spans span_at
  spans-next more = mapped_next span_of 4 words i more

  -- track i alone, and the tracks after all
  one_span : i < length words / 4 → take 1 (drop i (spans words)) ≡ span_at words i ∷ []
  unfolding spans span_at
  one_span more =
      rw (
        drop-cons (map span_of (rows 4 words)) i (span_of []) (omega (arith, length_mapped span_of 4 words)),
        get_or-map span_of (rows 4 words) i [],
        get_rows 4 i words more,
      )

  pub spans_past : length words / 4 ≤ i → drop i (spans words) ≡ []
  unfolding spans
  spans_past done = drop_of_length-le (map span_of (rows 4 words)) {i = i} (omega (arith, length_mapped span_of 4 words))

-- the first track, and the others; words that make no track
pub spans_front : (row rest : List ℕ) → length row ≡ 4 → spans (row ++ rest) ≡ span_of row ∷ spans rest
unfolding spans rows first_rows
spans_front row rest four =
    let n : length (row ++ rest) / 4 ≡ suc (length rest / 4) = rw length-append (omega arith) in
    let front : take 4 (row ++ rest) ≡ row = rw (sym four) (take-append_seam row rest) in
    let back : drop 4 (row ++ rest) ≡ rest = rw (sym four) (drop-append_seam row rest) in
    rw (n, front, back)

pub spans_none : (rest : List ℕ) → length rest < 4 → spans rest ≡ []
unfolding spans rows first_rows
spans_none rest few = let n : length rest / 4 ≡ 0 = omega arith in rw n

-- a row that is lent alone
one-row : (row : List ℕ) → length row ≡ 4 → spans row ≡ span_of row ∷ []
unfolding spans rows first_rows
one-row row whole = rw (whole, take_all 4 row (omega arith))

pub spans-row : (words : List ℕ) (i : ℕ) → i < length words / 4 → spans (take (i * 4 + 4 - i * 4) (drop (i * 4) words)) ≡ take 1 (drop i (spans words))
unfolding span_at
spans-row words i more =
    one-row (take (i * 4 + 4 - i * 4) (drop (i * 4) words)) (row-whole words i more) ∙ rw (row_words 4 i words) (sym (one_span words i more))

module _ (first end : ℕ) where
  pub clipped-append : (ss ts : List Span) → clipped first end (ss ++ ts) ≡ clipped first end ss ++ clipped first end ts
  unfolding clipped
  clipped-append ss ts = flat_map-append (λ s. kept (clip first end s)) ss ts

  pub clipped-one : (s : Span) → clipped first end (s ∷ []) ≡ kept (clip first end s)
  unfolding clipped
  clipped-one s = flat_map-one (λ s. kept (clip first end s)) s

  -- what is left of one track more
  pub clipped-next : (words : List ℕ) (i : ℕ) → i < length words / 4
      → clipped first end (take (i + 1) (spans words)) ≡ clipped first end (take i (spans words)) ++ kept (clip first end (span_at words i))
  clipped-next words i more = rw (spans-next words i more, clipped-append, clipped-one)
