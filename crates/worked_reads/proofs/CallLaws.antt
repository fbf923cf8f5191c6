-- Reads of an instance as calls: from what is computed of each, its promise, what it was given, and the places that it covers. Assumes nothing.
use mathlib.Core.Path.{◌≡◌, refl, sym, ap, subst, ◌∙◌}
use mathlib.Core.Logic.{⊎_elim}
use mathlib.Core.List.{List, [], ◌∷◌, ◌++◌, map}
use Prim.Native.Nat.{ℕ, ◌+◌, ◌-◌, min}
use native.Mathlib.Nat.{zero-add}
use native.Mathlib.Omega.{arith}
use lib.ListN.{length, take, drop, length-replicate, take-append-drop}
use lib.Seq.{take_all, length-take-le}
use Rattle.std.specs.Prelude.{Ok, Err}
use Rattle.chunk.specs.Append.{overlay}
use Rattle.chunk.proofs.AppendLaws.{length-overlay, overlay-out, overlay-append, overlay-room}
use Rattle.tree.specs.Gather.{Read, refused, accepted, window, covered}
use Rattle.dst.specs.Frame.{Frame}
use Rattle.refusal.specs.Verdict.{Verdict}
use Rattle.refusal.specs.declared.verdict.Refusal.{Refusal}
use Rattle.window.specs.Window.{shown}
use Rattle.window.proofs.TestLaws.{lt-or-le}
use Rattle.read_answer.specs.Answer.{ReadAnswer}
use Rattle.file_read.specs.Read.{Request, read_verdict, file_with, Reading, Reads}
use Rattle.old_readers.specs.Premises.{AcceptedBuild, Call, WasGiven, IfAccepted, AllGiven, read_by, reads_of}
use Rattle.worked_reads.specs.Instance.{WorkedRead, blank, holding_by}

-- bytes that are stored over the front of a buffer: those that fit, and what stays
overlay-front : (out s : List ℕ) → overlay out 0 s ≡ take (length out) s ++ drop (length (take (length out) s)) out
overlay-front out s =
    let n = length out in
    ⊎_elim
    (λ h. rw (take_all n s (omega arith)) (overlay-room out 0 s (omega arith) ∙ rw zero-add))
    (λ h.
    let l : length (take n s) ≡ n = length-take-le n s h in
    let m = length-overlay out 0 (take n s) in
    ap (overlay out 0) (sym (take-append-drop n s))
    ∙ sym (overlay-append out 0 (take n s) (drop n s))
    ∙ overlay-out (overlay out 0 (take n s)) (0 + length (take n s)) (drop n s) (omega arith)
    ∙ overlay-room out 0 (take n s) (omega arith)
    ∙ rw zero-add)
    (lt-or-le (length s) (length out))

-- the same outcome, under a verdict that is the same
under : (q : Request) (out last : List ℕ) (r : ReadAnswer) {v v' : Verdict} → v' ≡ v → Reading v q out last r → Reading v' q out last r
under q out last r e = subst (λ (v : Verdict). Reading v q out last r) (sym e)

module _ (b : AcceptedBuild) (fs : List Frame) (file : List ℕ) where
  -- what is computed of a read that is accepted: the verdict, how many bytes it fills, that the file that it knows of has there what the file has, and what it was given
  pub record Accepts (q : Request) (room count : ℕ) : Type 0 where
    pub taken : read_verdict q room ≡ Ok tt
    pub many : count ≡ min room (length (file_with q room) - q.offset)
    pub shows : window (file_with q room) q.offset room ≡ window file q.offset room
    pub given : WasGiven b fs q room

  -- of a read with this answer; of a refused one the verdict
  abbrev pub Computes : Request → ℕ → ReadAnswer → Type 0
  Computes q room (Ok count) = Accepts q room count
  Computes q room (Err refusal) = read_verdict q room ≡ Err refusal

  -- of each of a list
  abbrev pub AllCompute : List WorkedRead → Type 0
  AllCompute [] = Unit {0}
  AllCompute (r ∷ rs) = Computes r.request r.room r.answer × AllCompute rs

  -- its promise, with any buffer of its length
  fills : (q : Request) (out : List ℕ) (room count : ℕ) → length out ≡ room → Accepts q room count
      → Reads q out (window file q.offset room ++ drop (length (window file q.offset room)) out) (Ok count)
  unfolding shown window
  fills q out room count e =
      subst
      (λ (n : ℕ). Accepts q n count → Reads q out (window file q.offset n ++ drop (length (window file q.offset n)) out) (Ok count)) e
      (λ a.
      under q out _ (Ok count) a.taken
      (record {
        answer = ap Ok a.many;
        buffer =
            ap (λ (s : List ℕ). s ++ drop (length s) out) (sym a.shows)
            ∙ sym (overlay-front out (drop q.offset (file_with q (length out))));
      }))

  refuses : (q : Request) (out : List ℕ) (room : ℕ) (refusal : Refusal) → length out ≡ room → read_verdict q room ≡ Err refusal
      → Reads q out out (Err refusal)
  refuses q out room refusal e =
      subst (λ (n : ℕ). read_verdict q n ≡ Err refusal → Reads q out out (Err refusal)) e
      (λ v. under q out out (Err refusal) v (record { answer = refl; buffer = refl }))

  pub promised : (q : Request) (room : ℕ) (r : ReadAnswer) → Computes q room r → Reads q (blank room) (holding_by r file q.offset room) r
  promised q room (Ok count) c = fills q (blank room) room count (length-replicate room 170) c
  promised q room (Err refusal) c = refuses q (blank room) room refusal (length-replicate room 170) c

  -- the calls
  abbrev call_of : (r : WorkedRead) → Computes r.request r.room r.answer → Call
  call_of r c = record {
    request = r.request;
    out = blank r.room;
    last = holding_by r.answer file r.request.offset r.room;
    answer = r.answer;
    promise = promised r.request r.room r.answer c;
  }

  pub calls_of : (rs : List WorkedRead) → AllCompute rs → List Call
  calls_of [] cs = []
  calls_of (r ∷ rs) cs = call_of r cs.0 ∷ calls_of rs cs.1

  -- what is told of each call is what is told of its read
  pub called : {A : Type 0} (f : Call → A) (g : WorkedRead → A)
      → ((r : WorkedRead) (c : Computes r.request r.room r.answer) → f (call_of r c) ≡ g r)
      → (rs : List WorkedRead) (cs : AllCompute rs) → map f (calls_of rs cs) ≡ map g rs
  unfolding calls_of
  called f g e [] cs = refl
  called f g e (r ∷ rs) cs = rw (e r cs.0, called f g e rs cs.1)

  -- the accepted ones were given what is computed
  one-given : (q : Request) (room : ℕ) (r : ReadAnswer) → Computes q room r → IfAccepted b fs q (length (blank room)) r
  one-given q room (Ok count) c = rw (length-replicate {A = ℕ} room 170) c.given
  one-given q room (Err refusal) c = tt

  pub all_given : (rs : List WorkedRead) (cs : AllCompute rs) → AllGiven b fs (calls_of rs cs)
  unfolding calls_of
  all_given [] cs = tt
  all_given (r ∷ rs) cs = (one-given r.request r.room r.answer cs.0, all_given rs cs.1)

-- the places that reads cover, by offsets and rooms alone
abbrev pub places_by : ℕ → ℕ → ReadAnswer → Read
places_by offset room (Ok count) = accepted offset room []
places_by offset room (Err refusal) = refused

abbrev pub places_of : List WorkedRead → List Read
places_of rs = map (λ (r : WorkedRead). places_by r.request.offset r.room r.answer) rs

one_covers : (offset room : ℕ) (last : List ℕ) (r : ReadAnswer) (p : ℕ) (reads places : List Read) → covered reads p ≡ covered places p
    → covered (read_by offset (blank room) last r ∷ reads) p ≡ covered (places_by offset room r ∷ places) p
unfolding covered
one_covers offset room last (Ok count) p reads places e = rw (length-replicate {A = ℕ} room 170, e)
one_covers offset room last (Err refusal) p reads places e = e

pub all_cover : (b : AcceptedBuild) (fs : List Frame) (file : List ℕ) (rs : List WorkedRead) (cs : AllCompute b fs file rs) (p : ℕ)
    → covered (reads_of (calls_of b fs file rs cs)) p ≡ covered (places_of rs) p
unfolding calls_of
all_cover b fs file [] cs p = refl
all_cover b fs file (r ∷ rs) cs p =
    one_covers r.request.offset r.room _ r.answer p _ _ (all_cover b fs file rs cs.1 p)
