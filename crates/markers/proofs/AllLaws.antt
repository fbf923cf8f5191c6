-- What holds of each element of a list. Assumes nothing.
use mathlib.Core.Bool.{Bool, true, false, cond}
use mathlib.Core.List.{List, [], ◌∷◌, ◌++◌, map}
use Prim.Native.Nat.{ℕ, zero, suc, ◌*◌, ◌<◌}
use native.Mathlib.Nat.{zero-mul, suc-mul, add_comm}
use native.Mathlib.Omega.{arith}
use lib.ListN.{take, drop}
use lib.Seq.{drop-drop}
use Rattle.chunk.specs.Rows.{first_rows}

module _ {A : Type 0} (P : A → Type 0) where
  abbrev pub All : List A → Type 0
  All [] = Unit {0}
  All (x ∷ xs) = P x × All xs

  pub append_all : (xs ys : List A) → All xs → All ys → All (xs ++ ys)
  append_all [] ys i j = j
  append_all (x ∷ xs) ys i j = (i.0, append_all xs ys i.1 j)

  pub if-all : (b : Bool) (xs : List A) → All xs → All (cond b xs [])
  if-all true xs i = i
  if-all false xs i = tt

  pub either_all : (b : Bool) (xs ys : List A) → All xs → All ys → All (cond b xs ys)
  either_all true xs ys i j = i
  either_all false xs ys i j = j

  -- an element alone
  pub one_all : (k : ℕ) (xs : List A) → All xs → All (take 1 (drop k xs))
  one_all zero [] i = tt
  one_all (suc k) [] i = tt
  one_all zero (x ∷ xs) i = (i.0, tt)
  one_all (suc k) (x ∷ xs) i = one_all k xs i.1

  -- what is made of rows of w words, by their numbers
  pub rows_all : (f : List ℕ → A) (w m : ℕ) (words : List ℕ) → ((k : ℕ) → k < m → P (f (take w (drop (k * w) words)))) → All (map f (first_rows w m words))
  unfolding first_rows
  rows_all f w zero words h = tt
  rows_all f w (suc m) words h =
      (rw zero-mul at (h 0 (omega arith)), rows_all f w m (drop w words) (λ k l. rw (drop-drop, add_comm w (k * w)) (rw suc-mul at (h (suc k) (omega arith)))))
