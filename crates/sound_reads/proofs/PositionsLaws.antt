-- The laws of `positions_for` of specs/Positions.antt: which positions so many bytes from a place on touch. Assumes nothing.
use mathlib.Core.Path.{◌≡◌, refl, sym}
use mathlib.Core.Logic.{◌⊎◌, inl, inr, ⊎_elim}
use mathlib.Core.Bool.{Bool, true, false}
use mathlib.Core.List.{List}
use Prim.Native.Nat.{ℕ, zero, suc, ◌+◌, ◌-◌, ◌≤◌, ◌<◌, min, max}
use native.Mathlib.Nat.{not-suc-le-zero}
use native.Mathlib.Omega.{arith}
use borrow.Author.Tests.{lt-ltb, le-ltb}
use lib.ListN.{length, get_or}
use Rattle.sound_reads.specs.declared.place.Place.{Place}
use Rattle.dst.specs.Start.{start}
use Rattle.sound_reads.specs.Place.{first_where}
use Rattle.sound_reads.specs.Steps.{byte_at}
use Rattle.sound_reads.specs.Positions.{touched, past_last, range, positions_for}
use Rattle.dst.proofs.StartLaws.{start-suc, start_mono}
use Rattle.window.proofs.TestLaws.{lt-or-le}
use Rattle.sound_reads.proofs.PlaceLaws.{first-is, Found, found}

-- the last that passes
past_is : (p : ℕ → Bool) (n k : ℕ) → k < n → ((i : ℕ) → k < i → i < n → p i ≡ false) → p k ≡ true → past_last p n ≡ suc k
unfolding past_last
past_is p zero k h fails passes = absurd (not-suc-le-zero h)
past_is p (suc n) k h fails passes =
    ⊎_elim
    (λ l. rw (fails n l (omega arith)) (past_is p n k l (λ i a b. fails i a (omega arith)) passes))
    (λ l. let e : k ≡ n = omega arith in rw (← e, passes))
    (lt-or-le k n)

past_none : (p : ℕ → Bool) (n : ℕ) → ((i : ℕ) → i < n → p i ≡ false) → past_last p n ≡ 0
unfolding past_last
past_none p zero fails = refl
past_none p (suc n) fails = rw (fails n (omega arith)) (past_none p n (λ i g. fails i (omega arith)))

range-is : (p : ℕ → Bool) (n first last : ℕ) → first_where p n ≡ first → past_last p n ≡ suc last → range p n ≡ record { first = first; end = suc last }
unfolding range
range-is p n first last f e = rw (e, f, lt-ltb 0 (suc last) (omega arith))

range_none : (p : ℕ → Bool) (n : ℕ) → past_last p n ≡ 0 → range p n ≡ record { first = 0; end = 0 }
unfolding range
range_none p n e = rw e

module _ (ss : List ℕ) (from count : ℕ) where
  -- a unit is not touched if it ends at or before the place, or starts at or after the last byte's end, or no byte is wanted
  apart : (i : ℕ) → start ss (suc i) ≤ from → touched ss from count i ≡ false
  unfolding touched
  apart i h = le-ltb (max (start ss i) from) (min (start ss (suc i)) (from + count)) (omega arith)

  beyond : (i : ℕ) → from + count ≤ start ss i → touched ss from count i ≡ false
  unfolding touched
  beyond i h = le-ltb (max (start ss i) from) (min (start ss (suc i)) (from + count)) (omega arith)

  idle : (i : ℕ) → count ≡ 0 → touched ss from count i ≡ false
  unfolding touched
  idle i z = le-ltb (max (start ss i) from) (min (start ss (suc i)) (from + count)) (omega arith)

  met : (i : ℕ) → start ss i < start ss (suc i) → from < start ss (suc i) → start ss i < from + count → 0 < count → touched ss from count i ≡ true
  unfolding touched
  met i h l u c = lt-ltb (max (start ss i) from) (min (start ss (suc i)) (from + count)) (omega arith)

  -- the first has the place; the last starts before the last byte's end, and ends at or after it, or is the last of all
  pub record Touch (first last : ℕ) : Type 0 where
    pub ordered : first ≤ last
    pub known : last < length ss
    pub low : start ss first ≤ from
    pub high : from < start ss (suc first)
    pub wanted : 0 < count
    pub begun : start ss last < from + count
    pub sized : start ss last < start ss (suc last)
    pub full : (from + count ≤ start ss (suc last)) ⊎ (suc last ≡ length ss)

  pub positions_are : {first last : ℕ} → Touch first last → positions_for ss from count ≡ record { first = first; end = suc last }
  unfolding positions_for
  positions_are {first} {last} t =
      let low = t.low in
      let high = t.high in
      let wanted = t.wanted in
      let ordered = t.ordered in
      let known = t.known in
      let up = start_mono ss (suc first) (suc last) (omega arith) in
      range-is (touched ss from count) (length ss) first last
      (first-is (touched ss from count) (length ss) first (omega arith)
      (λ i h. let m = start_mono ss (suc i) first h in apart i (omega arith))
      (met first (omega arith) high (omega arith) wanted))
      (past_is (touched ss from count) (length ss) last known
      (λ i a b. ⊎_elim (λ l. let m = start_mono ss (suc last) i a in beyond i (omega arith)) (λ e. absurd (omega arith)) t.full)
      (met last t.sized (omega arith) t.begun wanted))

  -- no byte is wanted, or the sound ends before the place
  abbrev pub Nothing : Type 0
  Nothing = (count ≡ 0) ⊎ (start ss (length ss) ≤ from)

  pub positions_none : Nothing → positions_for ss from count ≡ record { first = 0; end = 0 }
  unfolding positions_for
  positions_none e =
      range_none (touched ss from count) (length ss)
      (past_none (touched ss from count) (length ss)
      (λ i h. ⊎_elim (λ z. idle i z) (λ l. let m = start_mono ss (suc i) (length ss) h in apart i (omega arith)) e))

  -- units from a first to a last
  pub record Something : Type 0 where
    pub first : ℕ
    pub last : ℕ
    pub touch : Touch first last

  -- the needed positions are positions of the sound
  pub positions_known : Nothing ⊎ Something → ((positions_for ss from count).first ≤ (positions_for ss from count).end) × ((positions_for ss from count).end ≤ length ss)
  positions_known =
      ⊎_elim
      (λ e. rw (positions_none e) (omega arith, omega arith))
      (λ s.
      let t = s.touch in
      let ordered = t.ordered in
      let known = t.known in
      rw (positions_are t) (omega arith, omega arith))

  some : (f : Found ss from) → 0 < count → (last : ℕ) → last < length ss → start ss last ≤ from + (count - 1) → start ss last < start ss (suc last)
      → (from + count ≤ start ss (suc last)) ⊎ (suc last ≡ length ss) → Something
  some f c last k l z u =
      let low = f.low in
      let high = f.high in
      let known = f.known in
      let ordered : f.position ≤ last =
      ⊎_elim
      (λ h. ⊎_elim (λ e. let m = start_mono ss (suc last) f.position h in absurd (omega arith)) (λ e. absurd (omega arith)) u)
      (λ h. h)
      (lt-or-le last f.position) in
      record {
        first = f.position;
        last = last;
        touch = record { ordered = ordered; known = k; low = low; high = high; wanted = c; begun = omega arith; sized = z; full = u };
      }

  -- where every unit has a byte: nothing is touched, or units from a first to a last
  module _ (sized : (i : ℕ) → i < length ss → 0 < get_or ss i 0) where
    grows : (i : ℕ) → i < length ss → start ss i < start ss (suc i)
    grows i h = let e = start-suc ss i h in let z = sized i h in omega arith

    from_found : (f : Found ss from) → 0 < count → Something
    from_found f c =
        let known = f.known in
        ⊎_elim
        (λ g. let h = g.high in some f c g.position g.known g.low (grows g.position g.known) (inl (omega arith)))
        (λ l.
        let n : suc (length ss - 1) ≡ length ss = omega arith in
        let m = start_mono ss (length ss - 1) (length ss) (omega arith) in
        some f c (length ss - 1) (omega arith) (omega arith) (grows (length ss - 1) (omega arith)) (inr n))
        (found ss (from + (count - 1)))

    pub touching : Nothing ⊎ Something
    touching =
        ⊎_elim
        (λ f. ⊎_elim (λ c. inr (from_found f c)) (λ z. inl (inl (omega arith))) (lt-or-le 0 count))
        (λ l. inl (inr l))
        (found ss from)

-- nothing is touched if no byte is wanted, or if the place is past the last position
pub none-touched : (ss : List ℕ) (a : Place) (count : ℕ) → (count ≡ 0) ⊎ (length ss ≤ a.position)
    → record { first = 0; end = 0 } ≡ positions_for ss (byte_at ss a) count
none-touched ss a count h =
    sym (positions_none ss (byte_at ss a) count (⊎_elim inl (λ l. let m = start_mono ss (length ss) a.position l in inr (omega arith)) h))
