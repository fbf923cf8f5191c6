-- DSD sound: n units of f bytes each. Assumes nothing.
use mathlib.Core.Path.{◌≡◌, refl, sym, ap, ◌∙◌}
use mathlib.Core.Logic.{◌⊎◌, inl, inr, ⊎_elim}
use mathlib.Core.Bool.{true, cond}
use mathlib.Core.List.{List, [], ◌∷◌, ◌++◌, map, flat_map, map-append}
use Prim.Native.Nat.{ℕ, zero, suc, ◌+◌, ◌*◌, ◌-◌, ◌/◌, ◌%◌, ◌≤◌, ◌<◌, min}
use native.Mathlib.Nat.{mul-zero, zero-mul, mul-suc, mul-add, mul_comm, add_comm, mul-le-mul_left, div-add-mod, mod-lt, not-suc-le-zero}
use native.Mathlib.Omega.{arith}
use lib.Dec.{ltb}
use Rattle.std.specs.Int.{div_ceil}
use Rattle.std.proofs.lemmas.Grind.{div_ceil_times}
use Rattle.std.specs.Prelude.{Some}
use lib.ListN.{length, take, drop, replicate, length-append, length-drop, length-replicate, get_or-replicate, replicate-append-replicate, take-append-drop}
use lib.Seq.{length-take-le, take_at, drop_at}
use Rattle.chunk.specs.Rows.{first_rows}
use Rattle.sound_reads.specs.declared.place.Place.{Place}
use Rattle.sound_reads.specs.declared.place.Positions.{Positions}
use Rattle.dst.specs.Frame.{dsd_sound}
use Rattle.dst.specs.Start.{sum, start}
use Rattle.sound_reads.specs.Place.{place_of}
use Rattle.sound_reads.specs.Steps.{Inside}
use Rattle.window.specs.declared.window.Window.{Window}
use Rattle.sound_reads.specs.Positions.{positions_for, number, between}
use Rattle.window.specs.Window.{Wrote}
use Rattle.sound_reads.specs.Fill.{Filling}
use Rattle.sound_reads.specs.Lent.{needed_at, contents_with}
use Rattle.window.proofs.TestLaws.{lt-or-le}
use Rattle.sound_reads.proofs.PlaceLaws.{place_is, place_end}
use Rattle.sound_reads.proofs.PositionsLaws.{Nothing, Something, positions_are, positions_known, touching}
use Rattle.sound_reads.proofs.PartLaws.{part_filled}

pub sum-replicate : (f n : ℕ) → sum (replicate n f) ≡ f * n
unfolding sum
sum-replicate f zero = sym (mul-zero f)
sum-replicate f (suc n) = rw (mul-suc f n, sum-replicate f n) (add_comm f (f * n))

pub take-replicate : (f n i : ℕ) → i ≤ n → take i (replicate n f) ≡ replicate i f
take-replicate f n zero h = refl
take-replicate f zero (suc i) h = absurd (not-suc-le-zero h)
take-replicate f (suc n) (suc i) h = ap (λ (l : List ℕ). f ∷ l) (take-replicate f n i (omega arith))

module _ (f n : ℕ) where
  frame-start : (i : ℕ) → i ≤ n → start (replicate n f) i ≡ f * i
  unfolding start
  frame-start i h = ap sum (take-replicate f n i h) ∙ sum-replicate f i

  -- a place past the sound
  pub dsd_past : (place : ℕ) → f * n ≤ place → record { position = n; within = place - f * n } ≡ place_of (replicate n f) place
  dsd_past place h =
      let l = length-replicate n f in
      let s : start (replicate n f) (length (replicate n f)) ≡ f * n = ap (start (replicate n f)) l ∙ frame-start n (omega arith) in
      rw l at (place_end (replicate n f) place (place - f * n) (omega arith))

  -- a frame has a byte, if the sound has
  pub frame-sized : (place : ℕ) → place < f * n → 0 < f
  frame-sized place h = ⊎_elim (λ l. l) (λ z. let e : f ≡ 0 = omega arith in absurd (not-suc-le-zero (rw (e, zero-mul) at h))) (lt-or-le 0 f)

  -- a place in the sound
  pub dsd_here : (place : ℕ) → place < f * n → record { position = place / f; within = place % f } ≡ place_of (replicate n f) place
  dsd_here place h =
      let z = frame-sized place h in
      let d = div-add-mod place f in
      let m = mod-lt place z in
      let l = length-replicate n f in
      let k : place / f < n = ⊎_elim (λ g. g) (λ g. let u = mul-le-mul_left f g in absurd (omega arith)) (lt-or-le (place / f) n) in
      let s = frame-start (place / f) (omega arith) in
      place_is (replicate n f) place (place / f) (place % f) (omega arith) (omega arith) (rw (get_or-replicate n (place / f) f 0 k) m)

  pub within-frame : (a : Place) → Inside (replicate n f) a → a.position < n → a.within < f
  within-frame a i h = let l = length-replicate n f in rw (get_or-replicate n a.position f 0 h) at (i.short (omega arith))

  -- bytes from a place in frame `first` on end in frame `last`
  touch : (first within count last : ℕ) → first ≤ last → last < n → within < f → 0 < count → f * last < f * first + within + count
      → (f * first + within + count ≤ f * suc last) ⊎ (suc last ≡ n)
      → record { first = first; end = suc last } ≡ positions_for (replicate n f) (start (replicate n f) first + within) count
  touch first within count last o k w c b u =
      let l = length-replicate n f in
      let s = frame-start first (omega arith) in
      let t = frame-start (suc first) (omega arith) in
      let p = frame-start last (omega arith) in
      let q = frame-start (suc last) k in
      let m = mul-suc f first in
      let m' = mul-suc f last in
      sym
      (positions_are (replicate n f) (start (replicate n f) first + within) count
      (record {
        ordered = o;
        known = omega arith;
        low = omega arith;
        high = omega arith;
        wanted = c;
        begun = omega arith;
        sized = omega arith;
        full = ⊎_elim (λ h. inl (omega arith)) (λ h. inr (omega arith)) u;
      }))

  -- they end in one of the frames after it, in the last, or past the sound
  pub ends : (first within count later : ℕ) → first < n → within < f → 0 < count → later ≡ min (div_ceil (count - (f - within)) f) (n - first - 1)
      → record { first = first; end = first + 1 + later } ≡ positions_for (replicate n f) (start (replicate n f) first + within) count
  ends first within count later known inside wanted e =
      let most = div_ceil (count - (f - within)) f in
      let t = div_ceil_times (count - (f - within)) f (omega arith) in
      let turned = mul_comm most f in
      let up : f * later ≤ f * most = mul-le-mul_left f (omega arith) in
      let begin = mul-add f first later in
      let over = mul-suc f (first + later) in
      let short : f * later < within + count =
      ⊎_elim
      (λ l. let one : f * 1 ≤ f * later = mul-le-mul_left f (omega arith) in omega (arith, t.1))
      (λ (z : later ≤ 0). let none : later ≡ 0 = omega arith in rw none (omega arith))
      (lt-or-le 0 later) in
      let end : first + 1 + later ≡ suc (first + later) = omega arith in
      rw end
      (touch first within count (first + later) (omega arith) (omega arith) inside wanted (omega arith)
      (⊎_elim
      (λ l. inr (omega arith))
      (λ l. let down : f * most ≤ f * later = mul-le-mul_left f (omega arith) in inl (omega (arith, t.0)))
      (lt-or-le (n - first - 1) most)))

  pub frames-touched : (from count : ℕ) → Nothing (replicate n f) from count ⊎ Something (replicate n f) from count
  frames-touched from count =
      ⊎_elim
      (λ z.
      touching (replicate n f) from count
      (λ i h. let l = length-replicate n f in let k : i < n = omega arith in rw (get_or-replicate n i f 0 k) z))
      (λ z.
      let e : f ≡ 0 = omega arith in
      let l = length-replicate n f in
      let s : start (replicate n f) (length (replicate n f)) ≡ f * n = ap (start (replicate n f)) l ∙ frame-start n (omega arith) in
      let y : f * n ≡ 0 = rw e (zero-mul n) in
      inl (inr (omega arith)))
      (lt-or-le 0 f)

-- The contents of the positions, cut from what is lent: k rows of f bytes each.
rows-sizes : (f k : ℕ) (s : List ℕ) → f * k ≤ length s → map (λ (c : List ℕ). length c) (first_rows f k s) ≡ replicate k f
unfolding first_rows
rows-sizes f zero s h = refl
rows-sizes f (suc k) s h =
    let m = mul-suc f k in
    let d = length-drop f s in
    let l : length (take f s) ≡ f = length-take-le f s (omega arith) in
    rw (l, rows-sizes f k (drop f s) (omega arith))

rows-count : (f k : ℕ) (s : List ℕ) → length (first_rows f k s) ≡ k
unfolding first_rows
rows-count f zero s = refl
rows-count f (suc k) s = ap suc (rows-count f k (drop f s))

pub rows-joined : (f k : ℕ) (s : List ℕ) → length s ≡ f * k → dsd_sound (first_rows f k s) ≡ s
unfolding dsd_sound flat_map first_rows
rows-joined f zero [] h = refl
rows-joined f zero (x ∷ s) h = let z = mul-zero f in absurd (omega arith)
rows-joined f (suc k) s h =
    let m = mul-suc f k in
    let d = length-drop f s in
    rw (rows-joined f k (drop f s) (omega arith)) (take-append-drop f s)

zeros-sizes : (f k : ℕ) → map (λ (c : List ℕ). length c) (replicate k (replicate f 0)) ≡ replicate k f
zeros-sizes f zero = refl
zeros-sizes f (suc k) = rw (length-replicate {A = ℕ} f 0, zeros-sizes f k)

module _ (f : ℕ) (p : Positions) (n : ℕ) (contents : List ℕ) (ordered : p.first ≤ p.end) (known : p.end ≤ n)
    (given : f * number p ≡ length contents) where
  pub with-sizes : map (λ (c : List ℕ). length c) (contents_with f p n contents) ≡ replicate n f
  unfolding contents_with
  with-sizes =
      let e : p.first + number p + (n - p.end) ≡ n = omega arith in
      map-append (λ (c : List ℕ). length c) (replicate p.first (replicate f 0) ++ first_rows f (number p) contents) (replicate (n - p.end) (replicate f 0))
      ∙ rw (
        map-append (λ (c : List ℕ). length c) (replicate p.first (replicate f 0)) (first_rows f (number p) contents),
        zeros-sizes f p.first,
        zeros-sizes f (n - p.end),
        rows-sizes f (number p) contents (omega arith),
        replicate-append-replicate p.first (number p) f,
        replicate-append-replicate (p.first + number p) (n - p.end) f,
        e,
      )
      refl

  pub with_rows : between p (contents_with f p n contents) ≡ first_rows f (number p) contents
  unfolding contents_with
  with_rows =
      let a : List (List ℕ) = replicate p.first (replicate f 0) in
      let b = first_rows f (number p) contents in
      let la : length a ≡ p.first = length-replicate p.first (replicate f 0) in
      let l : length (a ++ b) ≡ p.end = rw (length-append, la, rows-count f (number p) contents) (omega arith) in
      ap (drop p.first) (take_at (a ++ b) (replicate (n - p.end) (replicate f 0)) p.end l) ∙ drop_at a b p.first la

-- the sound of the file with zeros for what is not lent
module _ (f n : ℕ) (contents : List ℕ) (w : Window) (out : List ℕ) where
  abbrev pub wanted : Positions
  wanted = needed_at (replicate n f) w out

  pub wanted-known : (wanted.first ≤ wanted.end) × (wanted.end ≤ n)
  wanted-known =
      let k = positions_known (replicate n f) w.skip (length out - w.at) (frames-touched f n w.skip (length out - w.at)) in
      let l = length-replicate n f in
      (k.0, omega (arith, k.1))

  pub filled-contents : f * number wanted ≡ length contents → {last : List ℕ} {v : Window}
      → Wrote contents (record { at = w.at; skip = (place_of (replicate n f) w.skip).within }) out last v
      → Filling true (dsd_sound (contents_with f wanted n contents)) w out last
      (Some (record { at = v.at; skip = cond (ltb (place_of (replicate n f) w.skip).position n) 0 (place_of (replicate n f) w.skip).within }))
  unfolding dsd_sound
  filled-contents given {last} {v} q =
      let k = wanted-known in
      part_filled (λ (c : List ℕ). c) (contents_with f wanted n contents) (replicate n f) (with-sizes f wanted n contents k.0 k.1 given) w out
      (frames-touched f n w.skip (length out - w.at)) {last = last} {v = v} n (length-replicate n f)
      (rw (with_rows f wanted n contents k.0 k.1 given, rows-joined f (number wanted) contents (sym given)) q)
