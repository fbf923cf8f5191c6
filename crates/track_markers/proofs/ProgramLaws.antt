-- The laws of a program's markers, one span more at a time. Assumes nothing.
use mathlib.Core.Path.{◌≡◌, refl, sym}
use mathlib.Core.Bool.{Bool, true, false, cond, not}
use mathlib.Core.List.{List, [], ◌∷◌, ◌++◌, append_assoc, append-nil}
use Prim.Native.Nat.{ℕ}
use lib.Dec.{eqb}
use borrow.Author.Tests.{eq-eqb, ne_eqb, eqb-true, eqb-false}
use Rattle.std.specs.Prelude.{Option, None, Some, MatchOption}
use Rattle.std.specs.Bool.{then_some}
use Rattle.tracks.specs.Track.{has_frames, kept}
use Rattle.track_markers.specs.Program.{track_start, track_stop, stop_unless, track_markers}
use Rattle.track_markers.specs.Pass.{stop_if, stop_before, stop_after, added_markers}
use Rattle.markers.specs.declared.marker.Marker.{Marker}
use Rattle.tracks.specs.declared.track.Span.{Span}

pub eqb_comm : (a b : ℕ) → eqb a b ≡ eqb b a
eqb_comm a b = go (eqb b a) refl
  where
    go : (t : Bool) → eqb b a ≡ t → eqb a b ≡ t
    go true e = eq-eqb a b (sym (eqb-true b a e))
    go false e = ne_eqb a b (λ q. eqb-false b a e (sym q))

-- the markers of spans that follow a stop, if one is pending, without the last one's stop
unfoldable pub opened : Bool → Option ℕ → List Span → List Marker
opened titles last [] = []
opened titles last (s ∷ ss) = stop_if (stop_before last s.start) ++ (track_start titles s ∷ opened titles (Some s.end) ss)

-- the stop that is pending after spans
unfoldable pub last_stop : Option ℕ → List Span → Option ℕ
last_stop last [] = last
last_stop last (s ∷ ss) = last_stop (Some s.end) ss

-- a span's stop, unless the next starts there
stop_unless_lem : (s n : Span) (ss : List Span) → stop_unless s (n ∷ ss) ≡ stop_if (stop_before (Some s.end) n.start)
unfolding stop_unless track_stop
stop_unless_lem s n ss = rw (eqb_comm s.end n.start) (go (eqb n.start s.end))
  where
    go : (t : Bool) → cond t [] (track_stop s ∷ []) ≡ stop_if (cond t None (Some s.end))
    go true = refl
    go false = refl

last-snoc : (last : Option ℕ) (xs : List Span) (s : Span) → last_stop last (xs ++ (s ∷ [])) ≡ Some s.end
unfolding last_stop
last-snoc last [] s = refl
last-snoc last (x ∷ xs) s = last-snoc (Some x.end) xs s

module _ (titles : Bool) where
  -- after a span, its stop and the markers of the others are those markers and the last one's stop
  closed : (s : Span) (ss : List Span)
      → stop_unless s ss ++ track_markers titles ss ≡ opened titles (Some s.end) ss ++ stop_if (last_stop (Some s.end) ss)
  unfolding stop_unless track_markers opened last_stop track_stop
  closed s [] = refl
  closed s (n ∷ ss) = rw (stop_unless_lem s n ss, closed n ss, append_assoc)

  pub track_markers_lem : (ss : List Span) → track_markers titles ss ≡ opened titles None ss ++ stop_if (last_stop None ss)
  unfolding track_markers opened last_stop
  track_markers_lem [] = refl
  track_markers_lem (s ∷ ss) = rw (closed s ss)

  -- one span more
  opened-snoc : (last : Option ℕ) (xs : List Span) (s : Span)
      → opened titles last (xs ++ (s ∷ []))
      ≡ opened titles last xs ++ (stop_if (stop_before (last_stop last xs) s.start) ++ (track_start titles s ∷ []))
  unfolding opened last_stop
  opened-snoc last [] s = refl
  opened-snoc last (x ∷ xs) s = rw (opened-snoc (Some x.end) xs s, append_assoc)

  module _ (xs : List Span) (s : Span) where
    pub opened-next : opened titles None (xs ++ kept s) ≡ opened titles None xs ++ added_markers (last_stop None xs) titles s
    unfolding kept added_markers
    opened-next = go (has_frames s)
      where
        go : (t : Bool) → opened titles None (xs ++ cond t (s ∷ []) [])
            ≡ opened titles None xs ++ cond t (stop_if (stop_before (last_stop None xs) s.start) ++ (track_start titles s ∷ [])) []
        go true = opened-snoc None xs s
        go false = simp append-nil

pub stop-next : (xs : List Span) (s : Span) → last_stop None (xs ++ kept s) ≡ stop_after (last_stop None xs) s
unfolding kept
stop-next xs s = go (has_frames s)
  where
    go : (t : Bool) → last_stop None (xs ++ cond t (s ∷ []) []) ≡ cond t (Some s.end) (last_stop None xs)
    go true = last-snoc None xs s
    go false = rw append-nil

-- what `filter` leaves of a pending stop, by a test that fails at a span's start
pub left_before : (Keeps : ℕ → Bool → Type 0) (start : ℕ) → ((stop : ℕ) (b : Bool) → Keeps stop b → b ≡ not (eqb stop start))
    → (last result : Option ℕ) → MatchOption last (result ≡ None) (λ stop. (b : Bool) × Keeps stop b × (result ≡ then_some b stop)) → result ≡ stop_before last start
left_before Keeps start test None result h = h
left_before Keeps start test (Some stop) result (b, kept, is) = rw (is, test stop b kept) (go (eqb stop start))
  where
    go : (t : Bool) → then_some (not t) stop ≡ cond t None (Some stop)
    go true = refl
    go false = refl
