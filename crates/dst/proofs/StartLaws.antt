-- The laws of `sum` and `start` of specs/Start.antt. Assumes nothing.
use mathlib.Core.Path.{◌≡◌, refl, ap, ◌∙◌}
use mathlib.Core.List.{List, [], ◌∷◌, ◌++◌, map}
use Prim.Native.Nat.{ℕ, zero, suc, ◌+◌, ◌-◌, ◌≤◌, ◌<◌}
use native.Mathlib.Nat.{not-suc-le-zero, le_of_suc-le-suc}
use native.Mathlib.Omega.{arith}
use lib.ListN.{length, take, drop, get_or}
use lib.Seq.{take_all, take-add}
use Rattle.dst.specs.Start.{sum, start}

pub sum-append : (a b : List ℕ) → sum (a ++ b) ≡ sum a + sum b
unfolding sum
sum-append [] b = omega arith
sum-append (x ∷ a) b = let i = sum-append a b in omega arith

pub sum-suc : (ss : List ℕ) (k : ℕ) → k < length ss → sum (take (suc k) ss) ≡ sum (take k ss) + get_or ss k 0
unfolding sum
sum-suc [] k h = absurd (not-suc-le-zero h)
sum-suc (s ∷ ss) zero h = omega arith
sum-suc (s ∷ ss) (suc k) h = let i = sum-suc ss k (le_of_suc-le-suc h) in omega arith

pub start-zero : (ss : List ℕ) → start ss 0 ≡ 0
unfolding start sum
start-zero ss = refl

-- a unit ends where the next starts
pub start-suc : (ss : List ℕ) (k : ℕ) → k < length ss → start ss (suc k) ≡ start ss k + get_or ss k 0
unfolding start
start-suc ss k h = sum-suc ss k h

-- past the last unit is the sound's end
pub start_all : (ss : List ℕ) (k : ℕ) → length ss ≤ k → start ss k ≡ sum ss
unfolding start
start_all ss k h = ap sum (take_all k ss h)

pub start-add : (ss : List ℕ) (i d : ℕ) → start ss i ≤ start ss (i + d)
unfolding start
start-add ss i d = let e = ap sum (take-add i d ss) ∙ sum-append (take i ss) (take d (drop i ss)) in omega arith

pub start_mono : (ss : List ℕ) (i j : ℕ) → i ≤ j → start ss i ≤ start ss j
start_mono ss i j h =
    let e : i + (j - i) ≡ j = omega arith in
    let l = start-add ss i (j - i) in
    rw e at l

-- the size of the unit of position k, by its frame's length
pub size-at : (f : ℕ → ℕ) (ls : List ℕ) (k : ℕ) → k < length ls → get_or (map f ls) k 0 ≡ f (get_or ls k 0)
size-at f [] k h = absurd (not-suc-le-zero h)
size-at f (l ∷ ls) zero h = refl
size-at f (l ∷ ls) (suc k) h = size-at f ls k (le_of_suc-le-suc h)
