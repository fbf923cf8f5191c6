-- Windows that meet split the dated notes between them (`WindowsThatMeet`, specs/Meeting.antt). Assumes nothing.
use mathlib.Core.Path.{◌≡◌, refl, sym, subst}
use mathlib.Core.Bool.{Bool, true, false, cond, not, ◌&&◌, ◌||◌, true≢false}
use Prim.Native.Nat.{ℕ, zero, suc, ◌+◌, ◌<◌}
use native.Mathlib.Numerals.{add-one}
use native.Mathlib.Omega.{arith}
use Rattle.std.specs.Prelude.{Ok, Err}
use Rattle.refusal.specs.Verdict.{Verdict}
use Rattle.refusal.specs.Below.{below, how_many}
use Rattle.refusal.proofs.VerdictLaws.{or-accepted}
use Rattle.calendar.specs.declared.date.Stamp.{Stamp}
use Rattle.calendar.specs.Date.{is_undated, date_fault}
use Rattle.calendar.specs.Order.{earlier}
use Rattle.calendar.specs.Window.{is_inside, window_fault, told_unless, falls_in}
use Rattle.calendar.specs.Meeting.{WindowsThatMeet}
use Rattle.calendar.proofs.OrderLaws.{not-true, strict_and-total}

-- what is earlier than a is earlier than all that is not earlier than a
still_earlier : (note a b : Stamp) → earlier b a ≡ false → earlier note a ≡ true → earlier note b ≡ true
still_earlier note a b h p = go (earlier note b) refl (earlier b note) refl
  where
    go : (t : Bool) → earlier note b ≡ t → (u : Bool) → earlier b note ≡ u → t ≡ true
    go true e u f = refl
    go false e true f = not-true h (strict_and-total.onward b note a f p)
    go false e false f =
        let same = strict_and-total.total note b e f in
        not-true h (subst (λ (s : Stamp). earlier s a ≡ true) same p)

-- not before what is not before the first is not before the first
not-before : (a b c : Stamp) → earlier b a ≡ false → earlier c b ≡ false → earlier c a ≡ false
not-before a b c h k = go (earlier c a) refl
  where
    go : (t : Bool) → earlier c a ≡ t → t ≡ false
    go true e = not-true k (still_earlier c a b h e)
    go false e = refl

-- of a note: undated, before the start, before the middle, before the end
never_both : (u s m e : Bool) → ((not u && (not s && m)) && (not u && (not m && e))) ≡ false
never_both true s m e = refl
never_both false true m e = refl
never_both false false true e = refl
never_both false false false e = refl

one_of_both : (u s m e : Bool) → (s ≡ true → m ≡ true) → (m ≡ true → e ≡ true)
    → (not u && (not s && e)) ≡ ((not u && (not s && m)) || (not u && (not m && e)))
one_of_both true s m e p q = refl
one_of_both false true true e p q = refl
one_of_both false true false e p q = absurd (true≢false (sym (p refl)))
one_of_both false false true e p q = q refl
one_of_both false false false e p q = refl

module _ (start middle end note : Stamp) where
  inside_one : (is_inside start middle note && is_inside middle end note) ≡ false
  inside_one = never_both (is_undated note) (earlier note start) (earlier note middle) (earlier note end)

  inside_both : earlier middle start ≡ false → earlier end middle ≡ false → is_inside start end note ≡ (is_inside start middle note || is_inside middle end note)
  inside_both h k =
      one_of_both (is_undated note) (earlier note start) (earlier note middle) (earlier note end) (still_earlier note start middle h) (still_earlier note middle end k)

-- an answer that is told
told : (v : Verdict) (inside : Bool) {a : Bool} → told_unless v inside ≡ Ok a → (v ≡ Ok tt) × (inside ≡ a)
told (Ok done) inside e = (refl, cc)
told (Err r) inside e = let z : ◌≡◌ {A = ℕ} 0 1 = cc in absurd (omega arith)

-- a count goes on by one window
one_more : (a b : Bool) → (a && b) ≡ false → cond a 1 0 + cond b 1 0 ≡ cond (a || b) 1 0
one_more true true e = absurd (true≢false e)
one_more true false e = refl
one_more false true e = refl
one_more false false e = refl

-- a window of no minute
empty : (u s : Bool) → ◌≡◌ {A = ℕ} 0 (cond (not u && (not s && s)) 1 0)
empty true s = refl
empty false true = refl
empty false false = refl

module _ (cut : ℕ → Stamp) where
  abbrev Ascending : ℕ → Type 0
  Ascending n = (k : ℕ) → k < n → earlier (cut (k + 1)) (cut k) ≡ false

  last : (n : ℕ) → Ascending n → earlier (cut n) (cut 0) ≡ false
  last zero h = strict_and-total.not_itself (cut 0)
  last (suc n) h =
      let next = rw add-one at (h n (omega arith)) in
      not-before (cut 0) (cut n) (cut (suc n)) (last n (λ k l. h k (omega arith))) next

  in_one : (n : ℕ) → Ascending n → (note : Stamp) → how_many (λ k. is_inside (cut k) (cut (k + 1)) note) n ≡ cond (is_inside (cut 0) (cut n) note) 1 0
  unfolding below
  in_one zero h note = empty (is_undated note) (earlier note (cut 0))
  in_one (suc n) h note =
      let before : Ascending n = λ k l. h k (omega arith) in
      let next = rw add-one at (h n (omega arith)) in
      let both = inside_both (cut 0) (cut n) (cut (suc n)) note (last n before) next in
      let more = one_more (is_inside (cut 0) (cut n) note) (is_inside (cut n) (cut (suc n)) note) (inside_one (cut 0) (cut n) (cut (suc n)) note) in
      rw (in_one n before note, add-one, more, both)

not-both : (start middle end note : Stamp) (a b : Bool) → falls_in start middle note ≡ Ok a → falls_in middle end note ≡ Ok b → (a && b) ≡ false
unfolding falls_in
not-both start middle end note a b p q =
    let first = (told (window_fault start middle note) (is_inside start middle note) p).1 in
    let second = (told (window_fault middle end note) (is_inside middle end note) q).1 in
    rw (first, second) at (inside_one start middle end note)

none_lost : (start middle end note : Stamp) (a b : Bool) → earlier middle start ≡ false → earlier end middle ≡ false
    → falls_in start middle note ≡ Ok a → falls_in middle end note ≡ Ok b → falls_in start end note ≡ Ok (a || b)
unfolding falls_in
none_lost start middle end note a b h k p q =
    let first = told (window_fault start middle note) (is_inside start middle note) p in
    let second = told (window_fault middle end note) (is_inside middle end note) q in
    let ok-start = (or-accepted (date_fault start) _ first.0).0 in
    let rest = (or-accepted (date_fault middle) _ second.0).1 in
    let ok_end = or-accepted (date_fault end) _ rest in
    let whole = inside_both start middle end note h k in
    rw (ok-start, ok_end.0, ok_end.1, whole, first.1, second.1)

pub windows_that_meet : WindowsThatMeet
windows_that_meet = record { not-both = not-both; none_lost = none_lost; in_one = in_one }
