-- The walk over the lengths, a block or a frame at a time: the units' sizes are a function of the frames' lengths. Assumes nothing.
use mathlib.Core.Path.{◌≡◌, refl, sym, ap, ◌∙◌}
use mathlib.Core.Logic.{◌⊎◌, inl, inr}
use mathlib.Core.Bool.{Bool}
use mathlib.Core.List.{List, map, map-append}
use Prim.Native.Nat.{ℕ, zero, suc, ◌+◌, ◌-◌, ◌*◌, ◌≤◌, ◌<◌}
use native.Mathlib.Nat.{zero-add, zero-mul, add_comm, mul_comm, mul-suc, not-suc-le-zero, le_of_suc-le-suc}
use native.Mathlib.Numerals.{add-one}
use native.Mathlib.Omega.{arith}
use lib.Bits.{bit_or, and_le_l, and_le_r, or_add_and}
use lib.ListN.{length, take, drop, get_or, length-map}
use lib.Seq.{take-add, drop-drop}
use borrow.Author.Count.{below_more}
use Rattle.std.specs.Simd.{first_chunks}
use Rattle.sound_reads.specs.declared.place.Place.{Place}
use Rattle.chunk.specs.Chunk.{occupied}
use Rattle.dst.specs.Unit.{unit_size, sizes}
use Rattle.dst.specs.Start.{sum, start}
use Rattle.sound_reads.specs.Place.{place_of}
use Rattle.sound_reads.specs.Steps.{Inside}
use Rattle.sound_reads.specs.Positions.{positions_for}
use Rattle.dst.proofs.StartLaws.{sum-append, start-zero, start-suc, size-at}
use Rattle.dst.proofs.UnitLaws.{start-front}
use Rattle.sound_reads.proofs.PlaceLaws.{place_is, place_end}
use Rattle.sound_reads.proofs.PositionsLaws.{positions_are}

-- every unit has a byte
pub unit-sized : (crc : Bool) (l : ℕ) → 0 < unit_size crc l
unfolding unit_size occupied
unit-sized crc l = omega arith

-- a number that has the bits of another is no smaller
or_left : (a b : ℕ) → a ≤ bit_or a b
or_left a b = omega (arith, or_add_and a b, and_le_r a b)

or_right : (a b : ℕ) → b ≤ bit_or a b
or_right a b = omega (arith, or_add_and a b, and_le_l a b)

-- so a number that has the bits of the lengths before position i, and of the length there, is no smaller than any of them
pub bound-on : (ls : List ℕ) (i most : ℕ) → ((j : ℕ) → j < i → get_or ls j 0 ≤ most)
    → (j : ℕ) → j < i + 1 → get_or ls j 0 ≤ bit_or most (get_or ls i 0)
bound-on ls i most h =
    below_more _ _
    (λ j g. omega (arith, h j g, or_left most (get_or ls i 0)))
    (or_right most (get_or ls i 0))

-- block i of n lengths
pub block_at : (n k : ℕ) (ls : List ℕ) (i : ℕ) (d : List ℕ) → i < k → get_or (first_chunks n k ls) i d ≡ take n (drop (i * n) ls)
block_at n zero ls i d h = absurd (not-suc-le-zero h)
block_at n (suc k) ls zero d h = rw zero-mul
block_at n (suc k) ls (suc i) d h =
    let e : suc i * n ≡ n + i * n = rw mul_comm (mul-suc n i ∙ add_comm (n * i) n ∙ ap (λ (m : ℕ). n + m) (mul_comm n i)) in
    rw e (block_at n k (drop n ls) i d (le_of_suc-le-suc h) ∙ ap (take n) (drop-drop (i * n) n ls))

-- the units of so many frames from position k on
pub block_on : (crc : Bool) (ls : List ℕ) (k n : ℕ) → start (sizes crc ls) (k + n) ≡ start (sizes crc ls) k + sum (sizes crc (take n (drop k ls)))
block_on crc ls k n =
    rw (start-front crc ls (k + n), start-front crc ls k, take-add k n ls, map-append (unit_size crc) (take k ls) (take n (drop k ls)))
    (sum-append (sizes crc (take k ls)) (sizes crc (take n (drop k ls))))

-- `left` of `count` bytes from a place on, the first of which is in the unit of frame `first`, are those from the unit of frame k on, less the
-- bytes of that unit before the place
pub record Reach (f : ℕ → ℕ) (ls : List ℕ) (first within₀ count k within left : ℕ) : Type 0 where
  pub onward : first ≤ k
  pub known : k ≤ length ls
  pub more : 0 < left
  pub place : start (map f ls) k + within + left ≡ start (map f ls) first + within₀ + count
  pub before : k < length ls → within < f (get_or ls k 0)

module _ (f : ℕ → ℕ) (ls : List ℕ) where
  length-sizes : length (map f ls) ≡ length ls
  length-sizes = length-map ls f

  next_start : (k : ℕ) → k < length ls → start (map f ls) (suc k) ≡ start (map f ls) k + f (get_or ls k 0)
  next_start k h =
      let n = length-sizes in
      start-suc (map f ls) k (omega arith) ∙ ap (λ (s : ℕ). start (map f ls) k + s) (size-at f ls k h)

  pub inside-unit : (a : Place) → Inside (map f ls) a → a.position < length ls → a.within < f (get_or ls a.position 0)
  inside-unit a i h = let n = length-sizes in rw (size-at f ls a.position h) at (i.short (omega arith))

  pub walk_starts : (place : ℕ) → start (map f ls) 0 + place ≡ place
  walk_starts place = rw (start-zero (map f ls)) (zero-add place)

  module _ (place k within : ℕ) (b : start (map f ls) k + within ≡ place) where
    -- the place is in the unit of frame k
    pub walk_here : k < length ls → within < f (get_or ls k 0) → record { position = k; within = within } ≡ place_of (map f ls) place
    walk_here h l =
        let n = length-sizes in
        place_is (map f ls) place k within (omega arith) b (rw (size-at f ls k h) l)

    -- it is past it
    pub walk-on : k < length ls → f (get_or ls k 0) ≤ within → start (map f ls) (k + 1) + (within - f (get_or ls k 0)) ≡ place
    walk-on h l = let e = next_start k h in rw add-one (omega arith)

    -- it is past every unit
    pub walk_past : k ≡ length ls → record { position = k; within = within } ≡ place_of (map f ls) place
    walk_past e =
        let n : k ≡ length (map f ls) = e ∙ sym length-sizes in
        rw n (place_end (map f ls) place within (rw n at b))

  -- the walk from a place on, for so many bytes
  module _ (sized : (l : ℕ) → 0 < f l) (first within₀ count : ℕ) (given : first < length ls) (inside : within₀ < f (get_or ls first 0)) (wanted : 0 < count) where
    pub reach_starts : Reach f ls first within₀ count first within₀ count
    reach_starts = record { onward = omega arith; known = omega arith; more = wanted; place = refl; before = λ h. inside }

    module _ {k within left : ℕ} (r : Reach f ls first within₀ count k within left) where
      last-touched : (last : ℕ) → first ≤ last → last < length ls → start (map f ls) last < start (map f ls) first + within₀ + count
          → start (map f ls) last < start (map f ls) (suc last)
          → (start (map f ls) first + within₀ + count ≤ start (map f ls) (suc last)) ⊎ (suc last ≡ length (map f ls))
          → positions_for (map f ls) (start (map f ls) first + within₀) count ≡ record { first = first; end = suc last }
      last-touched last o k b s u =
          let n = length-sizes in
          let e = next_start first given in
          positions_are (map f ls) (start (map f ls) first + within₀) count
          (record { ordered = o; known = omega arith; low = omega arith; high = omega arith; wanted = wanted; begun = b; sized = s; full = u })

      -- the last byte is in the unit of frame k
      pub reach_here : k < length ls → left ≤ f (get_or ls k 0) - within
          → record { first = first; end = k + 1 } ≡ positions_for (map f ls) (start (map f ls) first + within₀) count
      reach_here h l =
          let e = next_start k h in
          let p = r.place in
          let b = r.before h in
          let m = r.more in
          rw add-one (sym (last-touched k r.onward h (omega arith) (omega arith) (inl (omega arith))))

      -- it is past it
      pub reach_on : k < length ls → f (get_or ls k 0) - within < left → Reach f ls first within₀ count (k + 1) 0 (left - (f (get_or ls k 0) - within))
      reach_on h l =
          let e = next_start k h in
          let p = r.place in
          let b = r.before h in
          let o = r.onward in
          rw add-one
          (record { onward = omega arith; known = h; more = omega arith; place = omega arith; before = λ g. sized (get_or ls (suc k) 0) })

      -- the sound ends before
      pub reach_end : length ls ≤ k → record { first = first; end = k } ≡ positions_for (map f ls) (start (map f ls) first + within₀) count
      reach_end h =
          let n = length-sizes in
          let g = r.known in
          let p = r.place in
          let m = r.more in
          let last : suc (length ls - 1) ≡ k = omega arith in
          let e = next_start (length ls - 1) (omega arith) in
          let z = sized (get_or ls (length ls - 1) 0) in
          let u : start (map f ls) (suc (length ls - 1)) ≡ start (map f ls) k = ap (start (map f ls)) last in
          rw (← last) (sym (last-touched (length ls - 1) (omega arith) (omega arith) (omega arith) (omega arith) (inr (omega arith))))
