-- The laws of extents. Assumes nothing.
use mathlib.Core.Path.{◌≡◌, sym, ◌∙◌}
use mathlib.Core.List.{List}
use Prim.Native.Nat.{ℕ, ◌+◌, ◌-◌, ◌≤◌, min}
use native.Mathlib.Decide.{dec_le}
use native.Mathlib.Omega.{arith}
use lib.ListN.{length, take, drop, length-take, length-drop, drop_of_length-le}
use lib.Seq.{take_all, take-nil}
use Rattle.texts.specs.Extent.{part}
use Rattle.texts.specs.declared.extent.Extent.{Extent}

-- what is there of so many elements
take_fit : (k : ℕ) (l : List ℕ) → take (min k (length l)) l ≡ take k l
take_fit k l = go (dec_le k (length l))
  where
    go : Dec (k ≤ length l) → take (min k (length l)) l ≡ take k l
    go (yes h) = let all : min k (length l) ≡ k = omega arith in rw all
    go (no h) = take_all (min k (length l)) l (omega arith) ∙ sym (take_all k l (omega arith))

pub length_part : (pool : List ℕ) (e : Extent) → length (part pool e) ≤ e.length
unfolding part
length_part pool e = rw (length-take) (omega arith)

-- the places that an extent has in a pool hold its part
pub part_places : (pool : List ℕ) (e : Extent)
    → take (min (e.start + e.length) (length pool) - min e.start (length pool)) (drop (min e.start (length pool)) pool) ≡ part pool e
unfolding part
part_places pool e = go (dec_le e.start (length pool))
  where
    n : ℕ
    n = length pool

    go : Dec (e.start ≤ n) → take (min (e.start + e.length) n - min e.start n) (drop (min e.start n) pool) ≡ take e.length (drop e.start pool)
    go (yes l) =
        let first : min e.start n ≡ e.start = omega arith in
        let count : min (e.start + e.length) n - e.start ≡ min e.length (length (drop e.start pool)) = rw (length-drop) (omega arith) in
        rw (first, count) (take_fit e.length (drop e.start pool))
    go (no l) =
        rw (drop_of_length-le pool {i = min e.start n} (omega arith), drop_of_length-le pool {i = e.start} (omega arith)) (take-nil (min (e.start + e.length) n - min e.start n) ∙ sym (take-nil e.length))
