-- The laws of an append. Assumes nothing.
use mathlib.Core.Path.{◌≡◌, refl, sym, ap, ◌∙◌}
use mathlib.Core.List.{List, [], ◌∷◌, ◌++◌, append-nil, append_assoc}
use Prim.Native.Nat.{ℕ, suc, ◌+◌, ◌-◌, ◌^◌, ◌≤◌, ◌<◌, min}
use native.Mathlib.Nat.{add-suc, suc-add, add-zero}
use native.Mathlib.Decide.{dec_lt, dec_le}
use native.Mathlib.Omega.{arith}
use borrow.Rule.Slice.PartMut.{put_mid}
use lib.ListN.{length, set, take, drop, length-set, length-append, take-append-drop}
use lib.Seq.{take_all, length-take-le, set_out, sets, sets-eq, paste, drop-drop}
use Rattle.chunk.specs.Append.{overlay, moved, Appended}

-- a place moved on twice
pub moved-moved : (a m n : ℕ) → moved (moved a m) n ≡ moved a (m + n)
moved-moved a m n = omega arith

pub length-overlay : (xs : List ℕ) (a : ℕ) (bs : List ℕ) → length (overlay xs a bs) ≡ length xs
unfolding overlay
length-overlay xs a [] = refl
length-overlay xs a (b ∷ bs) = length-overlay (set xs a b) (suc a) bs ∙ length-set xs a b

-- past the end nothing is stored
pub overlay-out : (xs : List ℕ) (a : ℕ) (bs : List ℕ) → length xs ≤ a → overlay xs a bs ≡ xs
unfolding overlay
overlay-out xs a [] h = refl
overlay-out xs a (b ∷ bs) h = rw (set_out xs a b h) (overlay-out xs (suc a) bs (omega arith))

-- a cursor that moved is at most at the largest usize, and past that there is no buffer
pub overlay-moved : (xs : List ℕ) (a n : ℕ) (bs : List ℕ) → length xs < 2 ^ 64 → overlay xs (moved a n) bs ≡ overlay xs (a + n) bs
overlay-moved xs a n bs h = go (dec_lt (a + n) (2 ^ 64))
  where
    go : Dec (a + n < 2 ^ 64) → overlay xs (moved a n) bs ≡ overlay xs (a + n) bs
    go (yes l) = ap (λ (k : ℕ). overlay xs k bs) (omega arith)
    go (no l) = overlay-out xs (moved a n) bs (omega arith) ∙ sym (overlay-out xs (a + n) bs (omega arith))

-- two appends in a row
pub overlay-append : (xs : List ℕ) (a : ℕ) (bs cs : List ℕ) → overlay (overlay xs a bs) (a + length bs) cs ≡ overlay xs a (bs ++ cs)
unfolding overlay
overlay-append xs a [] cs = rw add-zero
overlay-append xs a (b ∷ bs) cs = rw (add-suc, ← suc-add) (overlay-append (set xs a b) (suc a) bs cs)

-- where there is room, it is the plain splice
pub overlay-room : (xs : List ℕ) (a : ℕ) (bs : List ℕ) → a + length bs ≤ length xs → overlay xs a bs ≡ take a xs ++ bs ++ drop (a + length bs) xs
unfolding overlay
overlay-room xs a bs h = stores xs a bs ∙ sets-eq bs xs a h
  where
    stores : (xs : List ℕ) (a : ℕ) (bs : List ℕ) → overlay xs a bs ≡ sets xs a bs
    stores xs a [] = refl
    stores xs a (b ∷ bs) = stores (set xs a b) (suc a) bs

-- what follows a part that reaches the end is dropped
overlay-front : (xs : List ℕ) (a : ℕ) (p q : List ℕ) → length xs ≤ a + length p → overlay xs a (p ++ q) ≡ overlay xs a p
overlay-front xs a p q h = sym (overlay-append xs a p q) ∙ overlay-out (overlay xs a p) (a + length p) q (rw (length-overlay xs a p) h)

-- what a copy of as many bytes as fit leaves
overlay-paste : (xs : List ℕ) (a : ℕ) (bs : List ℕ) (n : ℕ) → n ≡ min (length bs) (length xs - a) → paste xs a bs n ≡ overlay xs a bs
overlay-paste xs a bs n e = go (dec_le (a + length bs) (length xs)) (dec_le (length xs) a)
  where
    go : Dec (a + length bs ≤ length xs) → Dec (length xs ≤ a) → paste xs a bs n ≡ overlay xs a bs
    go (yes l) _ =
        let all : n ≡ length bs = omega arith in
        rw (all, take_all (length bs) bs (omega arith)) (sym (overlay-room xs a bs l))
    go (no l) (yes m) =
        let none : n ≡ 0 = omega arith in
        rw (none, add-zero, append-nil) (take-append-drop a xs ∙ sym (overlay-out xs a bs m))
    go (no l) (no m) =
        let fit : length (take n bs) ≡ n = length-take-le n bs (omega arith) in
        ap (λ (k : ℕ). take a xs ++ take n bs ++ drop (a + k) xs) (sym fit)
        ∙ sym (overlay-room xs a (take n bs) (omega (arith, fit)))
        ∙ sym (overlay-front xs a (take n bs) (drop n bs) (omega (arith, fit)))
        ∙ ap (overlay xs a) (take-append-drop n bs)

-- a place past the end may stand for the end
pub overlay-min : (xs : List ℕ) (a : ℕ) (bs : List ℕ) → overlay xs (min a (length xs)) bs ≡ overlay xs a bs
overlay-min xs a bs = go (dec_le a (length xs))
  where
    go : Dec (a ≤ length xs) → overlay xs (min a (length xs)) bs ≡ overlay xs a bs
    go (yes l) = ap (λ (k : ℕ). overlay xs k bs) (omega arith)
    go (no l) = overlay-out xs (min a (length xs)) bs (omega arith) ∙ sym (overlay-out xs a bs (omega arith))

-- so a copy of as many bytes as fit, to the part of the buffer from the place on, is an append
pub copied : (n k : ℕ) {xs ys part bs : List ℕ} {a b p : ℕ} → length xs < 2 ^ 63 → p ≡ min a (length xs) → n ≡ min (length bs) (length xs - p) → k ≡ n
    → part ≡ take n bs → ys ≡ put_mid p k xs part → b ≡ moved a (length bs) → Appended xs a bs ys b
copied n k {xs} {ys} {part} {bs} {a} {b} {p} short from count all stored back place =
    let pasted : put_mid p k xs part ≡ paste xs p bs n = rw (stored, all, drop-drop, append_assoc) in
    record {
      short = short;
      place = place;
      buffer = back ∙ pasted ∙ overlay-paste xs p bs n count ∙ ap (λ (k : ℕ). overlay xs k bs) from ∙ overlay-min xs a bs;
    }

-- THE LAW OF COMPOSITION: two appends in a row are the append of both, whether or not they fit
infixl 5 ◌then◌
pub ◌then◌ : {xs ys zs bs cs : List ℕ} {a b c : ℕ} → Appended xs a bs ys b → Appended ys b cs zs c → Appended xs a (bs ++ cs) zs c
◌then◌ {xs} {ys} {zs} {bs} {cs} {a} {b} {c} p q = record {
  short = p.short;
  place = omega (arith, p.place, q.place, length-append bs cs);
  buffer =
      q.buffer
      ∙ ap (λ (l : List ℕ). overlay l b cs) p.buffer
      ∙ ap (λ (k : ℕ). overlay (overlay xs a bs) k cs) p.place
      ∙ overlay-moved (overlay xs a bs) a (length bs) cs (omega (arith, p.short, length-overlay xs a bs))
      ∙ overlay-append xs a bs cs;
}

-- what is appended where the cursor can move no further changes nothing
pub overrun : (bs cs : List ℕ) {xs ys : List ℕ} {a b : ℕ} → 2 ^ 64 - 1 ≤ length bs → Appended xs a (bs ++ cs) ys b → Appended xs a bs ys b
overrun bs cs {xs} {ys} {a} {b} h p =
    let both = length-append bs cs in
    record {
      short = p.short;
      place = omega (arith, p.place, both, h);
      buffer = p.buffer ∙ overlay-front xs a bs cs (omega (arith, p.short, h));
    }

-- nothing appended
pub none : {xs : List ℕ} {a : ℕ} → length xs < 2 ^ 63 → a < 2 ^ 64 → Appended xs a [] xs a
unfolding overlay
none h k = record { short = h; place = omega arith; buffer = refl }

-- an append keeps the buffer's length
pub kept : {xs ys bs : List ℕ} {a b : ℕ} → Appended xs a bs ys b → length ys ≡ length xs
kept {xs} {ys} {bs} {a} p = ap length p.buffer ∙ length-overlay xs a bs

-- the cursor that an append hands on does not depend on the buffer
pub same_cursor : {xs ys xs' ys' bs : List ℕ} {a b b' : ℕ} → Appended xs a bs ys b → Appended xs' a bs ys' b' → b ≡ b'
same_cursor p q = p.place ∙ sym q.place

-- so an append at the front of any buffer, an empty one too, measures
pub measured : {xs ys bs : List ℕ} {b : ℕ} → Appended xs 0 bs ys b → length bs < 2 ^ 64 → length bs ≡ b
measured p h = omega (arith, p.place)
