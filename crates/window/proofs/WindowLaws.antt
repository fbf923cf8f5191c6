-- The laws of specs/Window.antt: pieces that are put one after the other. Assumes nothing.
use mathlib.Core.Path.{◌≡◌, refl, sym, ap, ap₂, ◌∙◌}
use mathlib.Core.Logic.{◌⊎◌, inl, inr, ⊎_elim}
use mathlib.Core.List.{List, [], ◌∷◌, ◌++◌, append-nil}
use Prim.Native.Nat.{ℕ, zero, suc, ◌+◌, ◌-◌, ◌%◌, ◌≤◌, ◌<◌, min}
use native.Mathlib.Nat.{add_assoc, mod-lt}
use native.Mathlib.Omega.{arith, sub_cases}
use borrow.Rule.Slice.PartMut.{mid_of}
use lib.ListN.{length, drop, replicate, length-append, length-drop, drop_of_length-le}
use Rattle.std.proofs.lemmas.List.{drop_min}
use lib.Seq.{drop-nil}
use mathlib.Core.Bool.{true, ◌||◌}
use borrow.Author.Tests.{eqb-true, leb-true}
use lib.Dec.{lit<, eqb, leb}
use Rattle.chunk.specs.Number.{be}
use Rattle.chunk.proofs.NumberLaws.{length-be}
use Rattle.chunk.proofs.ChunkLaws.{pad-even}
use Rattle.chunk.specs.Append.{overlay, Appended}
use Rattle.chunk.specs.Chunk.{pad, chunk}
use Rattle.chunk.proofs.AppendLaws.{length-overlay, overlay-out, overlay-append, overlay-room, kept, ◌then◌ as append}
use Rattle.chunk.proofs.TailLaws.{overlay-apart, tail_lent}
use Rattle.window.specs.declared.window.Window.{Window}
use Rattle.window.specs.Window.{shown, after, Wrote}
use Rattle.window.proofs.TestLaws.{either, lt-or-le}

-- what is skipped of a whole is skipped of its first piece, and the remainder of the second
pub drop-append : (a b : List ℕ) (k : ℕ) → drop k (a ++ b) ≡ drop k a ++ drop (k - length a) b
drop-append [] b k = let e : k ≡ k - 0 = omega arith in ap (λ (m : ℕ). drop m b) e ∙ ap (λ (l : List ℕ). l ++ drop (k - 0) b) (sym (drop-nil k))
drop-append (x ∷ a) b zero = let e : 0 ≡ 0 - suc (length a) = omega arith in ap (λ (m : ℕ). x ∷ a ++ drop m b) e
drop-append (x ∷ a) b (suc k) = let e : suc k - suc (length a) ≡ k - length a = omega arith in rw e (drop-append a b k)

-- `omega` takes six case splits at most, so each part of the counts is a law
count-some : (a B O : ℕ) → min a O + min B (O - min a O) ≡ min (a + B) O
count-some a B O = omega arith

count_none : (b O : ℕ) → min 0 O + min b (O - min 0 O) ≡ min b O
count_none b O = omega arith

sub-some : (A B k : ℕ) → k ≤ A → A + B - k ≡ (A - k) + B
sub-some A B k h = omega arith

sub-none : (A B k : ℕ) → A ≤ k → A + B - k ≡ B - (k - A)
sub-none A B k h = omega arith

count-append : (A B O k : ℕ) → min (A - k) O + min (B - (k - A)) (O - min (A - k) O) ≡ min (A + B - k) O
count-append A B O k =
    sub_cases A k _
    (λ h e. let z : B - (k - A) ≡ B = omega arith in rw (z, sub-some A B k h) (count-some (A - k) B O))
    (λ h e. rw (e, sub-none A B k h) (count_none (B - (k - A)) O))

less_less : (x y z : ℕ) → x - y - z ≡ x - (y + z)
less_less x y z = omega arith

count-from : (A B o f k : ℕ) → (f + min (A - k) (o - f)) + min (B - (k - A)) (o - (f + min (A - k) (o - f))) ≡ f + min (A + B - k) (o - f)
count-from A B o f k = rw (← less_less o f (min (A - k) (o - f)), add_assoc) (ap (λ (x : ℕ). f + x) (count-append A B (o - f) k))

-- the place after two pieces
after-after : (a b len : ℕ) (w : Window) → after b len (after a len w) ≡ after (a + b) len w
unfolding after
after-after a b len w =
    ap₂ (λ (x y : ℕ). record { at = x; skip = y }) (count-from a b len w.at w.skip) (less_less w.skip a b)

-- where the next piece goes: after what fits of the first, or past the buffer
next_place : (xs : List ℕ) (a : ℕ) (A B : List ℕ) → overlay (overlay xs a A) (a + min (length A) (length xs - a)) B ≡ overlay xs a (A ++ B)
next_place xs a A B =
    ⊎_elim
    (λ h.
    let l = length-overlay xs a A in
    overlay-out (overlay xs a A) (a + min (length A) (length xs - a)) B (omega arith)
    ∙ sym (overlay-out (overlay xs a A) (a + length A) B (omega arith))
    ∙ overlay-append xs a A B)
    (λ h. let e : min (length A) (length xs - a) ≡ length A = omega arith in rw e (overlay-append xs a A B))
    (lt-or-le (length xs - a) (length A))

infixl 5 ◌then◌
-- a piece and then another are the two pieces joined
pub ◌then◌ : {a b : List ℕ} {w v u : Window} {out mid last : List ℕ} → Wrote a w out mid v → Wrote b v mid last u → Wrote (a ++ b) w out last u
unfolding shown after
◌then◌ {a} {b} {w} {v} {u} {out} {mid} {last} p q =
    let A = drop w.skip a in
    let lm : length mid ≡ length out = ap length p.filled ∙ length-overlay out w.at A in
    let la : length A ≡ length a - w.skip = length-drop w.skip a in
    record {
      filled =
          rw (q.filled, p.filled, p.place, drop-append a b w.skip, ← la)
          (next_place out w.at A (drop (w.skip - length a) b));
      place = rw (q.place, p.place, lm, length-append a b) (after-after (length a) (length b) (length out) w);
    }

-- where the first of two pieces goes, if the second is there already
first-place : (xs : List ℕ) (a : ℕ) (A B : List ℕ) → overlay (overlay xs (a + min (length A) (length xs - a)) B) a A ≡ overlay xs a (A ++ B)
first-place xs a A B =
    ⊎_elim
    (λ h.
    let l = length-overlay xs a A in
    let out : length xs ≤ a + min (length A) (length xs - a) = omega arith in
    ap (λ (ys : List ℕ). overlay ys a A) (overlay-out xs (a + min (length A) (length xs - a)) B out)
    ∙ sym (overlay-out (overlay xs a A) (a + min (length A) (length xs - a)) B (omega arith))
    ∙ next_place xs a A B)
    (λ h. overlay-apart xs a A (a + min (length A) (length xs - a)) B (omega arith) ∙ next_place xs a A B)
    (lt-or-le (length xs - a) (length A))

-- a piece that is put after the piece that follows it
pub before : {a b : List ℕ} {w v u t : Window} {out mid last : List ℕ} → v ≡ after (length a) (length out) w → Wrote b v out mid u → Wrote a w mid last t
    → Wrote (a ++ b) w out last u
unfolding shown after
before {a} {b} {w} {v} {u} {t} {out} {mid} {last} e q p =
    let A = drop w.skip a in
    let la : length A ≡ length a - w.skip = length-drop w.skip a in
    record {
      filled = rw (p.filled, q.filled, e, drop-append a b w.skip, ← la) (first-place out w.at A (drop (w.skip - length a) b));
      place = rw (q.place, e, length-append a b) (after-after (length a) (length b) (length out) w);
    }

-- nothing is put
pub nothing : (w : Window) (out : List ℕ) → Wrote [] w out out w
unfolding shown after overlay
nothing w out =
    let a : w.at + min (0 - w.skip) (length out - w.at) ≡ w.at = omega arith in
    let s : w.skip - 0 ≡ w.skip = omega arith in
    record { filled = rw drop-nil; place = rw (a, s) }

-- no byte of a piece is wanted: it is skipped whole, or the buffer is full
pub unseen : (bytes : List ℕ) (w : Window) (out : List ℕ) → (length bytes ≤ w.skip) ⊎ (length out ≤ w.at)
    → Wrote bytes w out out (record { at = w.at; skip = w.skip - length bytes })
unfolding shown after overlay
unseen bytes w out h =
    let a : w.at ≡ w.at + min (length bytes - w.skip) (length out - w.at) = ⊎_elim (λ s. omega arith) (λ s. omega arith) h in
    record {
      filled = ⊎_elim (λ s. rw (drop_of_length-le bytes s)) (λ s. sym (overlay-out out w.at (drop w.skip bytes) s)) h;
      place = ap (λ (x : ℕ). record { at = x; skip = w.skip - length bytes }) a;
    }

-- a piece, less what is skipped of it, appended at the place
pub put_piece : {piece out last : List ℕ} {w v : Window} {k b : ℕ} → k ≡ min w.skip (length piece) → Appended out w.at (mid_of k (length piece - k) piece) last b
    → v ≡ after (length piece) (length last) w → Wrote piece w out last v
unfolding shown
put_piece {piece} {out} {w = w} {k = k} e p place =
    let rest : mid_of k (length piece - k) piece ≡ drop w.skip piece = tail_lent k piece ∙ ap (λ (n : ℕ). drop n piece) e ∙ drop_min w.skip piece in
    record { filled = p.buffer ∙ ap (overlay out w.at) rest; place = rw (kept p) at place }

bit : (k : ℕ) → k < 2 → mid_of {X = ℕ} 0 (k - 0) (0 ∷ []) ≡ replicate k 0
bit zero h = refl
bit (suc zero) h = refl
bit (suc (suc k)) h = absurd (omega arith)

-- what is written over the whole of a buffer
pub whole : {xs ys bs : List ℕ} {a b : ℕ} → a ≡ 0 → Appended xs a bs ys b → length bs ≡ length xs → ys ≡ bs
whole {xs} {ys} {bs} {a} z p e =
    let h : length xs ≤ 0 + length bs = omega arith in
    p.buffer
    ∙ ap (λ (n : ℕ). overlay xs n bs) z
    ∙ overlay-room xs 0 bs (omega arith)
    ∙ ap (λ (l : List ℕ). bs ++ l) (drop_of_length-le xs h)
    ∙ append-nil bs

-- a zero, or none, is the pad after so many bytes
pub zero-pad : (n : ℕ) → mid_of {X = ℕ} 0 (n % 2 - 0) (0 ∷ []) ≡ pad n
unfolding pad
zero-pad n = bit (n % 2) (mod-lt n (lit< tt))

-- a chunk's head, written over the whole of a buffer of 12
pub head-whole : {xs ys : List ℕ} {a b : ℕ} (name : List ℕ) (n : ℕ) → a ≡ 0 → length name ≡ 4 → length xs ≡ 12
    → Appended xs a (name ++ be 8 n) ys b → ys ≡ name ++ be 8 n
head-whole name n z h l p = whole z p (rw (length-append, length-be, h, l))

-- a chunk that holds a number of four bytes, over the whole of a buffer of 16
pub number-whole : {xs ys zs : List ℕ} {a b d : ℕ} (name : List ℕ) (x : ℕ) → a ≡ 0 → length name ≡ 4 → length xs ≡ 16
    → Appended xs a (name ++ be 8 4) ys b → Appended ys b (be 4 x) zs d → zs ≡ chunk name (be 4 x)
unfolding chunk
number-whole name x z h l p q =
    let e : length (name ++ be 8 4 ++ be 4 x) ≡ 16 = rw (length-append, length-append, length-be, length-be, h) in
    rw (length-be 4 x, pad-even 4 refl, append-nil) (whole z (append p q) (rw (e, l)))

-- a chunk, put as its head, its data and its pad
pub chunk-put : {header : List ℕ} {w v u t : Window} {out mid late last : List ℕ} (name content : List ℕ) → header ≡ name ++ be 8 (length content)
    → Wrote header w out mid v → Wrote content v mid late u → Wrote (mid_of {X = ℕ} 0 (length content % 2 - 0) (0 ∷ [])) u late last t
    → Wrote (chunk name content) w out last t
unfolding chunk
chunk-put name content e p q r = rw (← e, ← zero-pad (length content)) (p then q then r)

-- the test for no byte of a piece of n bytes to be wanted
pub unwanted : (bytes : List ℕ) (w : Window) (out : List ℕ) (room n : ℕ) → length bytes ≡ n → room ≡ length out - w.at
    → eqb room 0 || leb n w.skip ≡ true → Wrote bytes w out out (record { at = w.at; skip = w.skip - n })
unwanted bytes w out room n e r h =
    rw (← e)
    (unseen bytes w out
    (⊎_elim (λ z. let f = eqb-true room 0 z in inr (omega arith)) (λ l. let g = leb-true n w.skip l in inl (omega arith))
    (either (eqb room 0) (leb n w.skip) h)))
