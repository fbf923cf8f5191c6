-- How often a number is in a row; and how much names make, each at most once. Assumes nothing.
use mathlib.Core.Path.{◌≡◌, refl}
use mathlib.Core.Bool.{Bool, true, false, cond, not, ◌||◌}
use mathlib.Core.List.{List, [], ◌∷◌, map, flat_map}
use Prim.Native.Nat.{ℕ, zero, suc, ◌+◌, ◌≤◌, ◌<◌}
use native.Mathlib.Omega.{arith}
use lib.Dec.{eqb, ltb}
use lib.ListN.{length, get_or, length-append}
use native.Mathlib.Nat.{zero-add}
use borrow.Author.Tests.{eqb-true, eqb-false, ne_eqb, ltb-true, ltb-false, lt-ltb, le-ltb}
use Rattle.std.specs.List.{list_any}
use Rattle.chunk_names.specs.declared.InfoChunk.{InfoChunk}
use Rattle.chunk_names.specs.declared.InfoChunk.TheVariants.{EditedMasterId, Markers, Artist, Title}
use Rattle.chunk_names.specs.declared.LocalChunk.{LocalChunk}
use Rattle.chunk_names.specs.declared.LocalChunk.TheVariants.{Property, SoundData, DstIndex, EditedMasterInfo, Comments}
use Rattle.refusal.specs.Below.{below, how_many}
use Rattle.refusal.specs.Orders.{info_rank, local_rank, times}

-- how often a number is in a row, by the row's first number
how_many-front : (f : ℕ → Bool) (n : ℕ) → how_many f (suc n) ≡ cond (f 0) 1 0 + how_many (λ k. f (suc k)) n
unfolding below
how_many-front f zero = omega arith
how_many-front f (suc n) = omega (arith, how_many-front f n)

pub times-cons : (x : ℕ) (xs : List ℕ) (r : ℕ) → times (x ∷ xs) r ≡ cond (eqb x r) 1 0 + times xs r
unfolding times
times-cons x xs r = how_many-front (λ k. eqb (get_or (x ∷ xs) k 0) r) (length xs)

pub times_none : (r : ℕ) → times [] r ≡ 0
unfolding times below
times_none r = refl

-- whether a number is in a row at all
pub contains-times : (x : ℕ) (xs : List ℕ) → list_any (λ y. eqb y x) xs ≡ not (eqb (times xs x) 0)
contains-times x [] = rw (times_none x)
contains-times x (y ∷ xs) = go (contains-times x xs) (eqb y x) refl
  where
    go : list_any (λ z. eqb z x) xs ≡ not (eqb (times xs x) 0) → (b : Bool) → eqb y x ≡ b → (eqb y x || list_any (λ z. eqb z x) xs) ≡ not (eqb (times (y ∷ xs) x) 0)
    go rest true e = rw (times-cons y xs x, e, ne_eqb (1 + times xs x) 0 (λ z. absurd (omega arith)))
    go rest false e = rw (times-cons y xs x, e, rest, zero-add)

-- the numbers of the names are below how many there are
pub info_rank_low : (c : InfoChunk) → info_rank c < 4
info_rank_low EditedMasterId = omega arith
info_rank_low Markers = omega arith
info_rank_low Artist = omega arith
info_rank_low Title = omega arith

pub local_rank_low : (c : LocalChunk) → local_rank c < 5
local_rank_low Property = omega arith
local_rank_low SoundData = omega arith
local_rank_low DstIndex = omega arith
local_rank_low EditedMasterInfo = omega arith
local_rank_low Comments = omega arith

-- NAMES, each a number below `names`, that make at most so much each
module _ {A : Type 0} (rank : A → ℕ) (made : A → List ℕ) (most : ℕ → ℕ) (fits : (x : A) → length (made x) ≤ most (rank x)) where
  -- how much is made of those whose number is below n
  abbrev up_to : ℕ → List A → ℕ
  up_to n [] = 0
  up_to n (x ∷ xs) = cond (ltb (rank x) n) (length (made x)) 0 + up_to n xs

  none_yet : (xs : List A) → up_to 0 xs ≡ 0
  none_yet [] = refl
  none_yet (x ∷ xs) = rw (le-ltb (rank x) 0 (omega arith), none_yet xs)

  -- a name and the next number: either it is that one, or nothing changes
  other : (x : A) (n : ℕ) → eqb (rank x) n ≡ false → cond (ltb (rank x) (suc n)) (length (made x)) 0 ≡ cond (ltb (rank x) n) (length (made x)) 0
  other x n e = go (ltb (rank x) (suc n)) (ltb (rank x) n) refl refl
    where
      go : (a b : Bool) → ltb (rank x) (suc n) ≡ a → ltb (rank x) n ≡ b → cond a (length (made x)) 0 ≡ cond b (length (made x)) 0
      go true true p q = refl
      go false false p q = refl
      go true false p q = absurd (omega (arith, ltb-true (rank x) (suc n) p, ltb-false (rank x) n q, eqb-false (rank x) n e))
      go false true p q = absurd (omega (arith, ltb-false (rank x) (suc n) p, ltb-true (rank x) n q))

  this : (x : A) (n : ℕ) → eqb (rank x) n ≡ true → cond (ltb (rank x) (suc n)) (length (made x)) 0 ≤ most n
  this x n e = go (ltb (rank x) (suc n))
    where
      go : (a : Bool) → cond a (length (made x)) 0 ≤ most n
      go true = rw (eqb-true (rank x) n e) at (fits x)
      go false = omega arith

  -- a number that no name has adds nothing; one that at most one name has adds at most what that may make
  absent : (n : ℕ) (xs : List A) → times (map rank xs) n ≡ 0 → up_to (suc n) xs ≡ up_to n xs
  absent n [] h = refl
  absent n (x ∷ xs) h = go (eqb (rank x) n) refl (times-cons (rank x) (map rank xs) n) (absent n xs)
    where
      go : (b : Bool) → eqb (rank x) n ≡ b → times (rank x ∷ map rank xs) n ≡ cond (eqb (rank x) n) 1 0 + times (map rank xs) n
          → (times (map rank xs) n ≡ 0 → up_to (suc n) xs ≡ up_to n xs) → up_to (suc n) (x ∷ xs) ≡ up_to n (x ∷ xs)
      go true e often rest = absurd (omega (arith, h, rw e at often))
      go false e often rest = rw (other x n e, rest (omega (arith, h, rw e at often)))

  next : (n : ℕ) (xs : List A) → times (map rank xs) n ≤ 1 → up_to (suc n) xs ≤ up_to n xs + most n
  next n [] h = omega arith
  next n (x ∷ xs) h = go (eqb (rank x) n) refl (times-cons (rank x) (map rank xs) n) (next n xs)
    where
      go : (b : Bool) → eqb (rank x) n ≡ b → times (rank x ∷ map rank xs) n ≡ cond (eqb (rank x) n) 1 0 + times (map rank xs) n
          → (times (map rank xs) n ≤ 1 → up_to (suc n) xs ≤ up_to n xs + most n) → up_to (suc n) (x ∷ xs) ≤ up_to n (x ∷ xs) + most n
      go true e often rest = omega (arith, this x n e, absent n xs (omega (arith, h, rw e at often)))
      go false e often rest = omega (arith, other x n e, rest (omega (arith, h, rw e at often)))

  below-room : (n : ℕ) (xs : List A) → ((r : ℕ) → r < n → times (map rank xs) r ≤ 1) → up_to n xs ≤ below ◌+◌ 0 most n
  unfolding below
  below-room zero xs once = omega (arith, none_yet xs)
  below-room (suc n) xs once = omega (arith, next n xs (once n (omega arith)), below-room n xs (λ r h. once r (omega arith)))

  all_below : (names : ℕ) → ((x : A) → rank x < names) → (xs : List A) → length (flat_map made xs) ≡ up_to names xs
  unfolding flat_map
  all_below names low [] = refl
  all_below names low (x ∷ xs) = rw (length-append, lt-ltb (rank x) names (low x), all_below names low xs)

  -- EACH NAME AT MOST ONCE: all of them make at most what one of each may make
  pub once-room : (names : ℕ) → ((x : A) → rank x < names) → (xs : List A) → ((r : ℕ) → r < names → times (map rank xs) r ≤ 1)
      → length (flat_map made xs) ≤ below ◌+◌ 0 most names
  once-room names low xs once = rw (all_below names low xs) (below-room names xs once)
