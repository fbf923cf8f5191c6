-- Tracks and their spans (01: "clip each [start, start + duration, saturating) to the range and drop empty ones"). Assumes nothing.
use Rattle.std.specs.Prelude.{ℕ, ◌+◌, ◌*◌, ◌-◌, ◌/◌, ◌^◌, min, max, Bool, true, false, cond, ◌&&◌, length, take, drop, get_or, leb, ltb}
use mathlib.Core.List.{List, [], ◌∷◌, map, flat_map}
use Rattle.chunk.specs.Rows.{rows}
use Rattle.tracks.specs.declared.track.Span.{Span}

-- the span of a track's row of four words: start, duration, title start, title length
unfoldable pub span_of : List ℕ → Span
span_of row = record {
  start = get_or row 0 0;
  end = min (get_or row 0 0 + get_or row 1 0) (2 ^ 32 - 1);
  title = record { start = get_or row 2 0; length = get_or row 3 0 };
}

-- the span of track i, counted from 0
unfoldable pub span_at : List ℕ → ℕ → Span
span_at words i = span_of (take 4 (drop (i * 4) words))

-- the same, an empty one if there is no such track
unfoldable pub track_span : List ℕ → ℕ → Span
track_span words i =
    cond (ltb i (length words / 4)) (span_at words i) (record { start = 0; end = 0; title = record { start = 0; length = 0 } })

-- the spans of the tracks that a build is lent
unfoldable pub spans : List ℕ → List Span
spans words = map span_of (rows 4 words)

-- what is left of a span between two frames
unfoldable pub clip : ℕ → ℕ → Span → Span
clip first end s = record { start = max first s.start; end = min end s.end; title = s.title }

-- whether a span is not empty
unfoldable pub has_frames : Span → Bool
has_frames s = ltb s.start s.end

-- a span, or none if it is empty
unfoldable pub kept : Span → List Span
kept s = cond (has_frames s) (s ∷ []) []

-- spans clipped to a range, without the empty ones
unfoldable pub clipped : ℕ → ℕ → List Span → List Span
clipped first end ss = flat_map (λ s. kept (clip first end s)) ss

-- whether spans that follow a frame are in order and don't overlap: each starts where the last one ended, or later
unfoldable pub in_order : ℕ → List Span → Bool
in_order after [] = true
in_order after (s ∷ ss) = leb after s.start && in_order s.end ss

-- where the last of spans that follow a frame ends; the frame, if there are none
unfoldable pub end_after : ℕ → List Span → ℕ
end_after after [] = after
end_after after (s ∷ ss) = end_after s.end ss

-- whether none is empty
unfoldable pub all_have_frames : List Span → Bool
all_have_frames [] = true
all_have_frames (s ∷ ss) = has_frames s && all_have_frames ss

-- whether spans are not empty, in order, and don't overlap
unfoldable pub exact : List Span → Bool
exact ss = all_have_frames ss && in_order 0 ss

-- whether there are any
unfoldable pub any_spans : List Span → Bool
any_spans [] = false
any_spans (s ∷ ss) = true
