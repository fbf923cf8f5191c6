-- A read needs only the units that it touches: what it shows of the sound it shows of those units. Assumes nothing.
use mathlib.Core.Path.{◌≡◌, refl, sym, ap, ap₂, ◌∙◌}
use mathlib.Core.Logic.{◌⊎◌, inl, inr, ⊎_elim}
use mathlib.Core.Bool.{true, cond}
use mathlib.Core.List.{List, [], ◌∷◌, ◌++◌, map, flat_map, append-nil, append_assoc}
use Prim.Native.Nat.{ℕ, zero, suc, ◌+◌, ◌-◌, ◌≤◌, ◌<◌, min}
use native.Mathlib.Omega.{arith}
use borrow.Author.Tests.{lt-ltb, le-ltb}
use Rattle.std.specs.Prelude.{Option, Some}
use lib.Dec.{ltb}
use lib.ListN.{length, take, drop, length-append, length-drop, length-map, drop_of_length-le, take-append-drop}
use lib.Seq.{drop-append-add, drop-nil, take-take, slice}
use Rattle.chunk.specs.Append.{overlay}
use Rattle.chunk.proofs.AppendLaws.{length-overlay, overlay-out, overlay-append}
use Rattle.chunk.proofs.ListLaws.{flat_map-append}
use Rattle.window.specs.declared.window.Window.{Window}
use Rattle.sound_reads.specs.declared.place.Positions.{Positions}
use Rattle.dst.specs.Start.{sum, start}
use Rattle.sound_reads.specs.Place.{place_of}
use Rattle.sound_reads.specs.Positions.{positions_for, between}
use Rattle.window.specs.Window.{shown, after, Wrote}
use Rattle.sound_reads.specs.Fill.{Filling}
use Rattle.dst.proofs.StartLaws.{start_all, start_mono}
use Rattle.sound_reads.proofs.PlaceLaws.{found, position-is, position-end}
use Rattle.sound_reads.proofs.PositionsLaws.{Nothing, Something, positions_are, positions_none}
use Rattle.window.proofs.WindowLaws.{drop-append}

-- Bytes at the place w, of which a part at the place v is all that is wanted: the same is shown, and as many bytes are written.
pub record Part (all part : List ℕ) (w v : Window) (out : List ℕ) : Type 0 where
  pub same : shown all w out ≡ shown part v out
  pub count : (after (length all) (length out) w).at ≡ (after (length part) (length out) v).at

-- nothing is wanted
part_none : (all : List ℕ) (w : Window) (within : ℕ) (out : List ℕ) → (length out - w.at ≡ 0) ⊎ (length all ≤ w.skip)
    → Part all [] w (record { at = w.at; skip = within }) out
unfolding shown after overlay
part_none all w within out h =
    record {
      same =
          rw (drop-nil within)
          (⊎_elim (λ z. overlay-out out w.at (drop w.skip all) (omega arith)) (λ l. rw (drop_of_length-le all l)) h);
      count = ⊎_elim (λ z. omega arith) (λ l. omega arith) h;
    }

-- what does not fit makes no difference
overlay-full : (xs : List ℕ) (a : ℕ) (bs cs : List ℕ) → length xs - a ≤ length bs → overlay xs a (bs ++ cs) ≡ overlay xs a bs
overlay-full xs a bs cs h =
    let l = length-overlay xs a bs in
    sym (overlay-append xs a bs cs) ∙ overlay-out (overlay xs a bs) (a + length bs) cs (omega arith)

count-full : (a b u k r : ℕ) → r ≤ u - k → min (a + (u + b) - (a + k)) r ≡ min (u - k) r
count-full a b u k r h = omega arith

count-last : (a u k r : ℕ) → min (a + (u + 0) - (a + k)) r ≡ min (u - k) r
count-last a u k r = omega arith

-- the bytes before are skipped whole; those after do not fit, or there are none
part-some : (before part after' : List ℕ) (w : Window) (within : ℕ) (out : List ℕ) → w.skip ≡ length before + within
    → (length out - w.at ≤ length part - within) ⊎ (after' ≡ [])
    → Part (before ++ (part ++ after')) part w (record { at = w.at; skip = within }) out
unfolding shown after
part-some before part late w within out e h =
    record {
      same =
          rw (e, drop-append-add before (part ++ late) within)
          (⊎_elim
          (λ l.
          let d = length-drop within part in
          rw (drop-append part late within) (overlay-full out w.at (drop within part) (drop (within - length part) late) (omega arith)))
          (λ z. ap (λ (l : List ℕ). overlay out w.at (drop within l)) (ap (λ (l : List ℕ). part ++ l) z ∙ append-nil part))
          h);
      count =
          rw (length-append before (part ++ late), length-append part late, e)
          (⊎_elim
          (λ l. ap (λ (n : ℕ). w.at + n) (count-full (length before) (length late) (length part) within (length out - w.at) l))
          (λ z. rw z (ap (λ (n : ℕ). w.at + n) (count-last (length before) (length part) within (length out - w.at))))
          h);
    }

pub map-take : {A : Type 0} (g : A → ℕ) (k : ℕ) (xs : List A) → map g (take k xs) ≡ take k (map g xs)
map-take g zero xs = refl
map-take g (suc k) [] = refl
map-take g (suc k) (x ∷ xs) = ap (λ (l : List ℕ). g x ∷ l) (map-take g k xs)

map-drop : {A : Type 0} (g : A → ℕ) (k : ℕ) (xs : List A) → map g (drop k xs) ≡ drop k (map g xs)
map-drop g zero xs = refl
map-drop g (suc k) [] = refl
map-drop g (suc k) (x ∷ xs) = map-drop g k xs

pub map_slice : {A : Type 0} (g : A → ℕ) (a b : ℕ) (xs : List A) → map g (slice a b xs) ≡ slice a b (map g xs)
map_slice g a b xs = map-drop g a (take b xs) ∙ ap (drop a) (map-take g b xs)

-- Sound that is made of units: f is the unit of an element of xs.
module _ {A : Type 0} (f : A → List ℕ) where
  abbrev pub unit_sizes : List A → List ℕ
  unit_sizes xs = map (λ (x : A). length (f x)) xs

  pub length-joined : (xs : List A) → length (flat_map f xs) ≡ sum (unit_sizes xs)
  unfolding flat_map sum
  length-joined [] = refl
  length-joined (x ∷ xs) = rw (length-append, length-joined xs)

  length_before : (xs : List A) (k : ℕ) → length (flat_map f (take k xs)) ≡ start (unit_sizes xs) k
  unfolding start
  length_before xs k = length-joined (take k xs) ∙ ap sum (map-take (λ (x : A). length (f x)) k xs)

  after_last : (xs : List A) (end : ℕ) → length xs ≤ end → flat_map f (drop end xs) ≡ []
  unfolding flat_map
  after_last xs end h = ap (flat_map f) (drop_of_length-le xs h)

  -- up to the end: before the first, and from the first to the end
  up_to : (xs : List A) (first end : ℕ) → first ≤ end → flat_map f (take end xs) ≡ flat_map f (take first xs) ++ flat_map f (slice first end xs)
  up_to xs first end h =
      ap (flat_map f) (sym (take-append-drop first (take end xs)))
      ∙ flat_map-append f (take first (take end xs)) (slice first end xs)
      ∙ ap (λ (l : List A). flat_map f l ++ flat_map f (slice first end xs)) (take-take first end xs h)

  -- before the first, from the first to the last, after the last
  in_parts : (xs : List A) (first end : ℕ) → first ≤ end
      → flat_map f xs ≡ flat_map f (take first xs) ++ (flat_map f (slice first end xs) ++ flat_map f (drop end xs))
  in_parts xs first end h =
      ap (flat_map f) (sym (take-append-drop end xs))
      ∙ flat_map-append f (take end xs) (drop end xs)
      ∙ ap (λ (l : List ℕ). l ++ flat_map f (drop end xs)) (up_to xs first end h)
      ∙ append_assoc (flat_map f (take first xs)) (flat_map f (slice first end xs)) (flat_map f (drop end xs))

  module _ (xs : List A) (ss : List ℕ) (given : unit_sizes xs ≡ ss) (w : Window) (out : List ℕ)
      (cases : Nothing ss w.skip (length out - w.at) ⊎ Something ss w.skip (length out - w.at)) where
    abbrev pub needed : Positions
    needed = positions_for ss w.skip (length out - w.at)

    abbrev pub begin : Window
    begin = record { at = w.at; skip = (place_of ss w.skip).within }

    end-joined : length (flat_map f xs) ≡ start ss (length ss)
    end-joined = length-joined xs ∙ ap sum given ∙ sym (start_all ss (length ss) (omega arith))

    part-nothing : Nothing ss w.skip (length out - w.at) → Part (flat_map f xs) (flat_map f (between needed xs)) w begin out
    unfolding flat_map
    part-nothing e =
        rw (positions_none ss w.skip (length out - w.at) e)
        (part_none (flat_map f xs) w (place_of ss w.skip).within out (⊎_elim inl (λ l. inr (rw end-joined l)) e))

    within-is : (first : ℕ) → first < length ss → start ss first ≤ w.skip → w.skip < start ss (suc first) → (place_of ss w.skip).within ≡ w.skip - start ss first
    unfolding place_of
    within-is first k l h = rw (position-is ss w.skip first k l h)

    -- the lengths of the units before the first, and of those from the first to the last
    before-is : (k : ℕ) → length (flat_map f (take k xs)) ≡ start ss k
    before-is k = length_before xs k ∙ ap (λ (l : List ℕ). start l k) given

    middle_is : (first end : ℕ) → first ≤ end → start ss first + length (flat_map f (slice first end xs)) ≡ start ss end
    middle_is first end h =
        let a : length (flat_map f (take end xs)) ≡ length (flat_map f (take first xs)) + length (flat_map f (slice first end xs)) =
        ap length (up_to xs first end h) ∙ length-append (flat_map f (take first xs)) (flat_map f (slice first end xs)) in
        let b = before-is first in
        let c = before-is end in
        omega arith

    part-touched : Something ss w.skip (length out - w.at) → Part (flat_map f xs) (flat_map f (between needed xs)) w begin out
    part-touched s =
        let first = s.first in
        let end = suc s.last in
        let t = s.touch in
        let low = t.low in
        let high = t.high in
        let ordered = t.ordered in
        let known = t.known in
        let b = before-is first in
        let m = middle_is first end (omega arith) in
        let n : length ss ≡ length xs = ap length (sym given) ∙ length-map xs (λ (x : A). length (f x)) in
        let q : Part (flat_map f (take first xs) ++ (flat_map f (slice first end xs) ++ flat_map f (drop end xs))) (flat_map f (slice first end xs)) w
        (record { at = w.at; skip = w.skip - start ss first }) out =
        part-some (flat_map f (take first xs)) (flat_map f (slice first end xs)) (flat_map f (drop end xs)) w (w.skip - start ss first) out (omega arith)
        (⊎_elim (λ l. inl (omega arith)) (λ e. inr (after_last xs end (omega arith))) t.full) in
        rw (positions_are ss w.skip (length out - w.at) t, in_parts xs first end (omega arith), within-is first (omega arith) low high) q

    -- what a read shows of the sound it shows of the units that it needs
    pub part : Part (flat_map f xs) (flat_map f (between needed xs)) w begin out
    part = ⊎_elim part-nothing part-touched cases

    -- what is left to be skipped after the sound of n positions
    left_after : (n : ℕ) → length ss ≡ n → cond (ltb (place_of ss w.skip).position n) 0 (place_of ss w.skip).within ≡ w.skip - length (flat_map f xs)
    unfolding place_of
    left_after n e =
        let a = end-joined in
        ⊎_elim
        (λ g.
        let k = g.known in
        let h = g.high in
        let m = start_mono ss (suc g.position) (length ss) k in
        rw (position-is ss w.skip g.position k g.low h, lt-ltb g.position n (omega arith)) (omega arith))
        (λ l. rw (position-end ss w.skip l, le-ltb (length ss) n (omega arith)) (omega arith))
        (found ss w.skip)

    -- the units that are needed are put, and the place after the sound is handed on
    pub part_filled : {last : List ℕ} {v : Window} (n : ℕ) → length ss ≡ n → Wrote (flat_map f (between needed xs)) begin out last v
        → Filling true (flat_map f xs) w out last
        (Some (record { at = v.at; skip = cond (ltb (place_of ss w.skip).position n) 0 (place_of ss w.skip).within }))
    unfolding after
    part_filled n e q =
        record {
          answer = ap₂ (λ (x y : ℕ). Some (record { at = x; skip = y })) (ap (λ (u : Window). u.at) q.place ∙ sym part.count) (left_after n e);
          buffer = q.filled ∙ sym part.same;
        }

  -- units that a read does not need make no difference
  pub part_real : (xs ys : List A) (ss : List ℕ) → unit_sizes xs ≡ ss → unit_sizes ys ≡ ss → (w : Window) (out : List ℕ)
      → Nothing ss w.skip (length out - w.at) ⊎ Something ss w.skip (length out - w.at)
      → flat_map f (between (positions_for ss w.skip (length out - w.at)) xs) ≡ flat_map f (between (positions_for ss w.skip (length out - w.at)) ys)
      → {last : List ℕ} {r : Option Window} → Filling true (flat_map f xs) w out last r → Filling true (flat_map f ys) w out last r
  part_real xs ys ss ex ey w out cases e q =
      let l : length (flat_map f xs) ≡ length (flat_map f ys) = length-joined xs ∙ ap sum (ex ∙ sym ey) ∙ sym (length-joined ys) in
      record {
        answer = q.answer ∙ ap (λ (n : ℕ). Some (after n (length out) w)) l;
        buffer =
            q.buffer
            ∙ (part xs ss ex w out cases).same
            ∙ ap (λ (l : List ℕ). shown l (record { at = w.at; skip = (place_of ss w.skip).within }) out) e
            ∙ sym (part ys ss ey w out cases).same;
      }
