-- The laws of `position_at` and `place_of` of specs/Place.antt: where a place is, and that a walk finds it. Assumes nothing.
use mathlib.Core.Path.{◌≡◌, refl, ap}
use mathlib.Core.Logic.{◌⊎◌, inl, inr, ⊎_elim}
use mathlib.Core.Bool.{Bool, true, false}
use mathlib.Core.List.{List}
use Prim.Native.Nat.{ℕ, zero, suc, ◌+◌, ◌≤◌, ◌<◌}
use native.Mathlib.Nat.{not-suc-le-zero, le_of_suc-le-suc, add-sub_cancel_left}
use native.Mathlib.Omega.{arith}
use borrow.Author.Tests.{lt-ltb, le-ltb}
use lib.Dec.{ltb}
use lib.ListN.{length, get_or}
use Rattle.dst.specs.Start.{start}
use Rattle.sound_reads.specs.Place.{first_where, position_at, place_of}
use Rattle.sound_reads.specs.Steps.{byte_at, Inside}
use Rattle.dst.proofs.StartLaws.{start-zero, start-suc, start_mono}
use Rattle.window.proofs.TestLaws.{lt-or-le}

-- the first that passes
pub first-is : (p : ℕ → Bool) (n k : ℕ) → k < n → ((i : ℕ) → i < k → p i ≡ false) → p k ≡ true → first_where p n ≡ k
unfolding first_where
first-is p zero k h fails passes = absurd (not-suc-le-zero h)
first-is p (suc n) zero h fails passes = rw passes
first-is p (suc n) (suc k) h fails passes =
    rw (fails 0 (omega arith)) (ap suc (first-is (λ i. p (suc i)) n k (le_of_suc-le-suc h) (λ i g. fails (suc i) (omega arith)) passes))

pub first-none : (p : ℕ → Bool) (n : ℕ) → ((i : ℕ) → i < n → p i ≡ false) → first_where p n ≡ n
unfolding first_where
first-none p zero fails = refl
first-none p (suc n) fails = rw (fails 0 (omega arith)) (ap suc (first-none (λ i. p (suc i)) n (λ i g. fails (suc i) (omega arith))))

module _ (ss : List ℕ) (place : ℕ) where
  -- units that end at or before the place are passed
  passed : (k : ℕ) → start ss k ≤ place → (i : ℕ) → i < k → ltb place (start ss (suc i)) ≡ false
  passed k h i g = let m = start_mono ss (suc i) k g in le-ltb place (start ss (suc i)) (omega arith)

  pub position-is : (k : ℕ) → k < length ss → start ss k ≤ place → place < start ss (suc k) → position_at ss place ≡ k
  unfolding position_at
  position-is k h l u = first-is (λ i. ltb place (start ss (suc i))) (length ss) k h (passed k l) (lt-ltb place (start ss (suc k)) u)

  pub position-end : start ss (length ss) ≤ place → position_at ss place ≡ length ss
  unfolding position_at
  position-end l = first-none (λ i. ltb place (start ss (suc i))) (length ss) (passed (length ss) l)

  place_at : (k within : ℕ) → position_at ss place ≡ k → start ss k + within ≡ place → record { position = k; within = within } ≡ place_of ss place
  unfolding place_of
  place_at k within e b = rw (e, ← b, add-sub_cancel_left (start ss k) within)

  -- a walk that ends within the unit of position k
  pub place_is : (k within : ℕ) → k < length ss → start ss k + within ≡ place → within < get_or ss k 0
      → record { position = k; within = within } ≡ place_of ss place
  place_is k within h b l =
      let s = start-suc ss k h in place_at k within (position-is k h (omega arith) (omega arith)) b

  -- a walk that passes every unit
  pub place_end : (within : ℕ) → start ss (length ss) + within ≡ place → record { position = length ss; within = within } ≡ place_of ss place
  place_end within b = place_at (length ss) within (position-end (omega arith)) b

  -- the unit that has the place
  pub record Found : Type 0 where
    pub position : ℕ
    pub known : position < length ss
    pub low : start ss position ≤ place
    pub high : place < start ss (suc position)

  walk : (m : ℕ) → m ≤ length ss → Found ⊎ (start ss m ≤ place)
  walk zero h = let z = start-zero ss in inr (omega arith)
  walk (suc m) h =
      ⊎_elim inl
      (λ l.
      ⊎_elim (λ u. inl (record { position = m; known = h; low = l; high = u })) inr (lt-or-le place (start ss (suc m))))
      (walk m (omega arith))

  -- each place is in a unit, or past them all
  pub found : Found ⊎ (start ss (length ss) ≤ place)
  found = walk (length ss) (omega arith)

  -- what a walk finds is the place
  pub byte_at_lem : byte_at ss (place_of ss place) ≡ place
  unfolding place_of
  byte_at_lem =
      ⊎_elim
      (λ f. let h = f.low in rw (position-is f.position f.known f.low f.high) (omega arith))
      (λ l. rw (position-end l) (omega arith))
      found

  pub inside : Inside ss (place_of ss place)
  unfolding place_of
  inside =
      ⊎_elim
      (λ f.
      let s = start-suc ss f.position f.known in
      let h = f.high in
      let l = f.low in
      let k = f.known in
      rw (position-is f.position f.known f.low f.high) (record { known = omega arith; short = λ i. omega arith }))
      (λ l. rw (position-end l) (record { known = omega arith; short = λ i. absurd (omega arith) }))
      found
