-- What is stored in a part of a buffer that begins at a place, `&mut xs[n..]`, and what is stored before it. Assumes nothing.
use mathlib.Core.Path.{◌≡◌, refl, ap}
use mathlib.Core.List.{List, [], ◌∷◌, ◌++◌, append-nil}
use Prim.Native.Nat.{ℕ, zero, suc, ◌+◌, ◌-◌, ◌≤◌, ◌<◌}
use native.Mathlib.Nat.{add-suc, not-suc-le-zero, le_of_suc-le-suc}
use native.Mathlib.Omega.{arith}
use borrow.Rule.Slice.PartMut.{mid_of, post_of, put_mid}
use lib.ListN.{length, set, take, drop, length-drop, drop_of_length-le, take-append-drop}
use lib.Seq.{take_all, take-set-le, drop-set-add}
use Rattle.chunk.specs.Append.{overlay}

-- two bytes stored at two places
set_apart : (xs : List ℕ) (i p b c : ℕ) → i < p → set (set xs i b) p c ≡ set (set xs p c) i b
set_apart [] i p b c h = refl
set_apart (x ∷ xs) i zero b c h = absurd (not-suc-le-zero h)
set_apart (x ∷ xs) zero (suc p) b c h = refl
set_apart (x ∷ xs) (suc i) (suc p) b c h = ap (λ (l : List ℕ). x ∷ l) (set_apart xs i p b c (le_of_suc-le-suc h))

-- a byte stored before the place of an overlay
set-overlay : (xs : List ℕ) (i b p : ℕ) (bs : List ℕ) → i < p → overlay (set xs i b) p bs ≡ set (overlay xs p bs) i b
unfolding overlay
set-overlay xs i b p [] h = refl
set-overlay xs i b p (c ∷ bs) h = rw (set_apart xs i p b c h) (set-overlay (set xs p c) i b (suc p) bs (omega arith))

-- two overlays, the one before the other
pub overlay-apart : (xs : List ℕ) (a : ℕ) (cs : List ℕ) (p : ℕ) (bs : List ℕ) → a + length cs ≤ p → overlay (overlay xs p bs) a cs ≡ overlay (overlay xs a cs) p bs
unfolding overlay
overlay-apart xs a [] p bs h = refl
overlay-apart xs a (x ∷ cs) p bs h = rw (← set-overlay xs a x p bs (omega arith)) (overlay-apart (set xs a x) (suc a) cs p bs (omega arith))

-- `&mut xs[n..]` is lent as `mid_of n (length xs - n) xs`, and comes back by `put_mid`
pub tail_lent : (n : ℕ) (xs : List ℕ) → mid_of n (length xs - n) xs ≡ drop n xs
tail_lent n xs = take_all (length xs - n) (drop n xs) (rw length-drop (omega arith))

pub tail_back : (n : ℕ) (xs ys : List ℕ) → put_mid n (length xs - n) xs ys ≡ take n xs ++ ys
tail_back n xs ys =
    let z : post_of n (length xs - n) xs ≡ [] = let h : length (drop n xs) ≤ length xs - n = rw length-drop (omega arith) in drop_of_length-le (drop n xs) h in
    rw (z, append-nil)

-- what is stored in a tail
pub overlay_tail : (a k : ℕ) (xs bs : List ℕ) → take a xs ++ overlay (drop a xs) k bs ≡ overlay xs (a + k) bs
unfolding overlay
overlay_tail a k xs [] = take-append-drop a xs
overlay_tail a k xs (b ∷ bs) =
    rw (← drop-set-add a xs k b, ← take-set-le a xs (a + k) b (omega arith), ← add-suc a k) (overlay_tail a (suc k) (set xs (a + k) b) bs)
