-- The laws of spans in order, one more at a time, and of what one pass over them knows. Assumes nothing.
use mathlib.Core.Path.{◌≡◌, refl}
use mathlib.Core.Bool.{Bool, true, false, ◌&&◌, ◌||◌, and_assoc, and-true, and-false, or-true, and-eq-true_iff}
use mathlib.Core.List.{List, [], ◌∷◌, ◌++◌, map, map-append, flat_map, append-nil}
use Prim.Native.Nat.{ℕ, ◌+◌, ◌-◌, ◌^◌, min, max}
use native.Mathlib.Omega.{arith}
use lib.ListN.{get_or}
use lib.Dec.{leb}
use Rattle.chunk.specs.Rows.{rows}
use Rattle.tracks.specs.Track.{span_of, spans, clip, has_frames, kept, clipped, in_order, end_after, all_have_frames, exact, any_spans}
use Rattle.tracks.specs.Steps.{order_with}
use Rattle.tracks.specs.declared.track.Span.{Span}
use Rattle.tracks.specs.declared.order.Order.{Order}
use Rattle.tracks.proofs.TrackLaws.{clipped-append, clipped-one}

pub end_after-snoc : (after : ℕ) (xs : List Span) (s : Span) → end_after after (xs ++ (s ∷ [])) ≡ s.end
unfolding end_after
end_after-snoc after [] s = refl
end_after-snoc after (x ∷ xs) s = end_after-snoc x.end xs s

pub in_order-snoc : (after : ℕ) (xs : List Span) (s : Span) → in_order after (xs ++ (s ∷ [])) ≡ (in_order after xs && leb (end_after after xs) s.start)
unfolding in_order end_after
in_order-snoc after [] s = and-true (leb after s.start)
in_order-snoc after (x ∷ xs) s = rw (in_order-snoc x.end xs s, and_assoc)

pub some-append : (xs ys : List Span) → any_spans (xs ++ ys) ≡ (any_spans xs || any_spans ys)
unfolding any_spans
some-append [] ys = refl
some-append (x ∷ xs) ys = refl

pub all_have_frames-snoc : (xs : List Span) (s : Span) → all_have_frames (xs ++ (s ∷ [])) ≡ (all_have_frames xs && has_frames s)
unfolding all_have_frames
all_have_frames-snoc [] s = and-true (has_frames s)
all_have_frames-snoc (x ∷ xs) s = rw (all_have_frames-snoc xs s, and_assoc)

-- what is known of spans (ss), and of those of them that are left (ls)
pub record Known (o : Order) (ss ls : List Span) : Type 0 where
  pub left : o.left ≡ any_spans ls
  pub whole : o.whole ≡ all_have_frames ss
  pub ordered : o.ordered ≡ in_order 0 ls
  pub end : o.end ≡ end_after 0 ls

-- one span more, empty or not
known_next : {o : Order} {ss ls : List Span} (s : Span) (b : Bool) → has_frames s ≡ b → Known o ss ls → Known (order_with o s) (ss ++ (s ∷ [])) (ls ++ kept s)
unfolding order_with kept any_spans
known_next s true e k =
    rw e
    (record {
      left = rw (some-append, or-true);
      whole = rw (all_have_frames-snoc, e, and-true) k.whole;
      ordered = rw (in_order-snoc, k.ordered, k.end);
      end = rw (end_after-snoc);
    })
known_next s false e k =
    rw (e, append-nil)
    (record {
      left = k.left;
      whole = rw (all_have_frames-snoc, e, and-false);
      ordered = k.ordered;
      end = k.end;
    })

module _ (first end : ℕ) where
  -- what is known of spans, clipped to a range
  abbrev pub Passed : List Span → Order → Type 0
  Passed ss o = Known o (map (clip first end) ss) (clipped first end ss)

  pub passed_none : Passed [] (record { left = false; whole = true; ordered = true; end = 0 })
  unfolding clipped flat_map any_spans all_have_frames in_order end_after
  passed_none = record { left = refl; whole = refl; ordered = refl; end = refl }

  pub passed-next : (ss : List Span) (s : Span) {o : Order} → Passed ss o → Passed (ss ++ (s ∷ [])) (order_with o (clip first end s))
  passed-next ss s k =
      rw (clipped-append first end ss (s ∷ []), clipped-one first end s, map-append) (known_next (clip first end s) (has_frames (clip first end s)) refl k)

-- clipping to all frames changes no span of a row
all_frames : (row : List ℕ) → clip 0 (2 ^ 32 - 1) (span_of row) ≡ span_of row
unfolding clip span_of
all_frames row =
    let start = get_or row 0 0 in
    let end = min (start + get_or row 1 0) (2 ^ 32 - 1) in
    let from : max 0 start ≡ start = omega arith in
    let to : min (2 ^ 32 - 1) end ≡ end = omega arith in
    rw (from, to)

map_all_frames : (rs : List (List ℕ)) → map (clip 0 (2 ^ 32 - 1)) (map span_of rs) ≡ map span_of rs
map_all_frames [] = refl
map_all_frames (r ∷ rs) = rw (all_frames r, map_all_frames rs)

-- so it leaves all of them, if none is empty
all_left : (rs : List (List ℕ)) → all_have_frames (map span_of rs) ≡ true → clipped 0 (2 ^ 32 - 1) (map span_of rs) ≡ map span_of rs
unfolding clipped flat_map kept all_have_frames
all_left [] h = refl
all_left (r ∷ rs) h =
    let parts = (and-eq-true_iff (has_frames (span_of r)) (all_have_frames (map span_of rs))).0 h in
    rw (all_frames r, parts.0, all_left rs parts.1)

exact-rows : (rs : List (List ℕ)) (b : Bool) → all_have_frames (map span_of rs) ≡ b
    → (all_have_frames (map span_of rs) && in_order 0 (clipped 0 (2 ^ 32 - 1) (map span_of rs))) ≡ exact (map span_of rs)
unfolding exact
exact-rows rs true e = rw (all_left rs e)
exact-rows rs false e = rw e

-- and what is known of them tells whether they are exact
pub exact-known : (words : List ℕ)
    → (all_have_frames (map (clip 0 (2 ^ 32 - 1)) (spans words)) && in_order 0 (clipped 0 (2 ^ 32 - 1) (spans words))) ≡ exact (spans words)
unfolding spans
exact-known words = let rs = rows 4 words in rw (map_all_frames rs) (exact-rows rs (all_have_frames (map span_of rs)) refl)
