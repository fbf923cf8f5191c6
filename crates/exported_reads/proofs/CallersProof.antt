-- The proofs of `EveryExportedBuild` and `EveryListOfExportedReads` (specs/Callers.antt). Assumes nothing.
use mathlib.Core.Path.{◌≡◌, refl, sym, ap₂, ◌∙◌}
use mathlib.Core.Bool.{cond}
use mathlib.Core.List.{List, [], ◌∷◌, map}
use Prim.Native.Nat.{ℕ}
use native.Mathlib.Omega.{arith}
use lib.Dec.{eqb}
use borrow.Author.Tests.{ne_eqb}
use lib.ListN.{length, take, get_or}
use Rattle.chunk.specs.Append.{overlay}
use Rattle.tree.specs.Gather.{Read, refused, accepted}
use Rattle.dst.specs.Frame.{Frame}
use Rattle.std.specs.Prelude.{Ok, Err}
use Rattle.refusal.specs.Verdict.{Verdict, refusal_number, or_else}
use Rattle.build_options.specs.Inputs.{Inputs}
use Rattle.words.specs.Border.{words_fault}
use Rattle.build_answer.specs.Answer.{Answer}
use Rattle.build_answer.specs.declared.answer.Built.{Built}
use Rattle.build_answer.specs.Answer.{build_number, build_values}
use Rattle.assemble.specs.Build.{build_verdict, Outcome}
use Rattle.read_answer.specs.Answer.{ReadAnswer}
use Rattle.read_answer.specs.Answer.{read_number, read_value}
use Rattle.file_read.specs.Read.{Request, Reads}
use Rattle.old_readers.specs.Premises.{AcceptedBuild, WasGiven, IfAccepted, AllGiven, read_by, read_of, reads_of}
use Rattle.old_readers.proofs.OldReadersProof.{every-list-of-reads}
use Rattle.exported_reads.specs.Callers.{ExportedBuild, inputs_by, Accepts, build_of, EveryExportedBuild, ExportedRead, call_of, exported_read, AllGivenBy, EveryListOfExportedReads}
use Rattle.exported_reads.proofs.NumberLaws.{exported_numbered, refused-build, refused-read}

-- an accepted build
module _ (e : ExportedBuild) where
  abbrev x : Inputs
  x = inputs_by e

  abbrev Leaves : Verdict → Answer → Type 0
  Leaves v r = Outcome x v e.header_before e.header_buffer e.trailer_before e.trailer_buffer r

  -- under the words' fault f
  by-fault : (f v : Verdict) → words_fault e.words ≡ f → (b : Built) → build_verdict x e.header_before e.trailer_before ≡ v
      → Leaves (or_else f v) (Ok b) → e.values ≡ overlay e.values_before 0 (b.header ∷ b.sound ∷ b.trailer ∷ []) → Accepts e
  by-fault (Ok tt) v border b is o told =
      record { border = border; header = b.header; sound = b.sound; trailer = b.trailer; promise = rw is o; told = told }
  by-fault (Err r) v border b is o told =
      let a = o.answers in let z : ◌≡◌ {A = ℕ} 0 1 = cc in absurd (omega arith)

  by_answer : (r : Answer) → Leaves (or_else (words_fault e.words) (build_verdict x e.header_before e.trailer_before)) r → 0 ≡ build_number r
      → e.values ≡ overlay e.values_before 0 (build_values r) → Accepts e
  by_answer (Ok b) promise zero told =
      by-fault (words_fault e.words) (build_verdict x e.header_before e.trailer_before) refl b refl promise told
  by_answer (Err r) promise zero told =
      let stays =
      refused-build x e.header_before e.header_buffer e.trailer_before e.trailer_buffer _ (exported_numbered e.words x e.header_before e.trailer_before) r promise in
      absurd (omega (arith, stays.least))

pub every-exported-build : EveryExportedBuild
every-exported-build e zero = by_answer e e.promise.answer e.promise.promise (sym zero ∙ e.promise.number) e.promise.values

-- what a call adds to what is gathered, by its number and value
read-by : (q : Request) (out last : List ℕ) (r : ReadAnswer) → Reads q out last r → (n : ℕ) → n ≡ read_number r → (value : List ℕ) → value ≡ read_value r ∷ []
    → read_by q.offset out last r ≡ cond (eqb n 0) (accepted q.offset (length out) (take (get_or value 0 0) last)) refused
read-by q out last (Ok count) promise n e value f = rw (e, f)
read-by q out last (Err r) promise n e value f = rw (e, ne_eqb (refusal_number r) 0 (λ z. omega (arith, z, (refused-read q out last r promise).least)))

read_is : (c : ExportedRead) → read_of (call_of c) ≡ exported_read c
read_is c =
    read-by c.request c.out c.last c.promise.answer c.promise.promise c.number c.promise.number c.value c.promise.only

reads-are : (cs : List ExportedRead) → reads_of (map call_of cs) ≡ map exported_read cs
reads-are [] = refl
reads-are (c ∷ cs) = ap₂ (λ (r : Read) (rs : List Read). r ∷ rs) (read_is c) (reads-are cs)

-- what the accepted ones were given
module _ (b : AcceptedBuild) (fs : List Frame) where
  if-accepted : (q : Request) (room : ℕ) (r : ReadAnswer) (n : ℕ) → n ≡ read_number r → (n ≡ 0 → WasGiven b fs q room) → IfAccepted b fs q room r
  if-accepted q room (Ok count) n e given = given e
  if-accepted q room (Err f) n e given = tt

  all_given : (cs : List ExportedRead) → AllGivenBy b fs cs → AllGiven b fs (map call_of cs)
  all_given [] given = tt
  all_given (c ∷ cs) given =
      (if-accepted c.request (length c.out) c.promise.answer c.number c.promise.number given.0, all_given cs given.1)

pub every-list-of-exported-reads : EveryListOfExportedReads
every-list-of-exported-reads e a fs recorded cs given = record {
  reads = reads-are cs;
  holds = every-list-of-reads (build_of e a) fs recorded (map call_of cs) (all_given (build_of e a) fs cs given);
}
