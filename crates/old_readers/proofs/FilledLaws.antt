-- What an accepted read filled, from its promise alone: the window of the file that it knows of. Assumes nothing.
use mathlib.Core.Path.{◌≡◌, refl, sym, ap, ◌∙◌}
use mathlib.Core.Logic.{⊎_elim}
use mathlib.Core.List.{List, ◌++◌, append-nil}
use Prim.Native.Nat.{ℕ, ◌+◌, ◌-◌, ◌≤◌, min}
use native.Mathlib.Omega.{arith}
use lib.ListN.{length, take, drop, length-drop, drop_of_length-le, take-append-drop}
use lib.Seq.{take_all, take_at, length-take-le}
use Rattle.chunk.specs.Append.{overlay}
use Rattle.chunk.proofs.AppendLaws.{length-overlay, overlay-out, overlay-append, overlay-room}
use Rattle.window.specs.Window.{shown}
use Rattle.window.proofs.TestLaws.{lt-or-le}
use Rattle.tree.specs.Gather.{window}
use Rattle.refusal.specs.Verdict.{Verdict}
use Rattle.std.specs.Prelude.{Ok, Err}
use Rattle.file_read.specs.Read.{Request, file_with, Reading, Reads, read_verdict}

-- of bytes that are stored over the front of a buffer, those that fit are its front
front_fits : (out s : List ℕ) → length s ≤ length out → take (length s) (overlay out 0 s) ≡ s
front_fits out s h = ap (take (length s)) (overlay-room out 0 s (omega arith)) ∙ take_at s (drop (0 + length s) out) (length s) refl

front-full : (out s : List ℕ) → length out ≤ length s → overlay out 0 s ≡ take (length out) s
front-full out s h =
    let n = length out in
    let l : length (take n s) ≡ n = length-take-le n s h in
    let m = length-overlay out 0 (take n s) in
    let all : length out ≤ 0 + length (take n s) = omega arith in
    ap (overlay out 0) (sym (take-append-drop n s))
    ∙ sym (overlay-append out 0 (take n s) (drop n s))
    ∙ overlay-out (overlay out 0 (take n s)) (0 + length (take n s)) (drop n s) (omega arith)
    ∙ overlay-room out 0 (take n s) (omega arith)
    ∙ ap (λ (l : List ℕ). take n s ++ l) (drop_of_length-le out all)
    ∙ append-nil (take n s)

front : (out s : List ℕ) → take (min (length out) (length s)) (overlay out 0 s) ≡ take (length out) s
front out s =
    ⊎_elim
    (λ h.
    let e : min (length out) (length s) ≡ length s = omega arith in
    rw e (front_fits out s (omega arith) ∙ sym (take_all (length out) s (omega arith))))
    (λ h.
    let e : min (length out) (length s) ≡ length out = omega arith in
    let l : length (take (length out) s) ≡ length out = length-take-le (length out) s h in
    rw (e, front-full out s h) (take_all (length out) (take (length out) s) (omega arith)))
    (lt-or-le (length s) (length out))

-- what is shown of a file from an offset on, cut to what was filled, is the file's window
pub shown-window : (file : List ℕ) (offset : ℕ) (out : List ℕ)
    → take (min (length out) (length file - offset)) (shown file (record { at = 0; skip = offset }) out) ≡ window file offset (length out)
unfolding shown window
shown-window file offset out = rw (← length-drop offset file) (front out (drop offset file))

-- an accepted read: how many bytes it filled, and its buffer
pub record Filled (q : Request) (out last : List ℕ) (count : ℕ) : Type 0 where
  pub many : count ≡ min (length out) (length (file_with q (length out)) - q.offset)
  pub buffer : last ≡ shown (file_with q (length out)) (record { at = 0; skip = q.offset }) out

pub filled : (q : Request) {out last : List ℕ} {count : ℕ} → Reads q out last (Ok count) → Filled q out last count
filled q {out} {last} {count} p = by (read_verdict q (length out)) p
  where
    by : (v : Verdict) → Reading v q out last (Ok count) → Filled q out last count
    by (Ok tt) r = record { many = cc r.answer; buffer = r.buffer }
    by (Err e) r = absurd (cc r.answer)
