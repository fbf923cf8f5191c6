-- Each accepted call of a list filled its window of the build's file. Assumes nothing.
use mathlib.Core.Path.{◌≡◌, ap₂, ◌∙◌}
use mathlib.Core.List.{List, [], ◌∷◌}
use Prim.Native.Nat.{ℕ}
use lib.ListN.{length, take}
use Rattle.std.specs.Prelude.{Ok, Err}
use Rattle.tree.specs.Gather.{window, Faithful}
use Rattle.dst.specs.Frame.{Frame}
use Rattle.read_answer.specs.Answer.{ReadAnswer}
use Rattle.file_read.specs.Read.{Request, Reads}
use Rattle.old_readers.specs.Premises.{AcceptedBuild, Call, Recorded, WasGiven, IfAccepted, AllGiven, read_by, reads_of}
use Rattle.old_readers.specs.OldReaders.{file_bytes}
use Rattle.old_readers.proofs.FilledLaws.{shown-window, filled}
use Rattle.old_readers.proofs.RealLaws.{same-file}

module _ (b : AcceptedBuild) (fs : List Frame) (recorded : Recorded b.inputs fs) where
  -- an accepted read
  filled-window : (q : Request) (out last : List ℕ) (count : ℕ) → Reads q out last (Ok count) → WasGiven b fs q (length out)
      → take count last ≡ window (file_bytes b fs) q.offset (length out)
  filled-window q out last count promise given =
      let f = filled q promise in
      let s = same-file b fs recorded q out given in
      ap₂ take (f.many ∙ s.count) (f.buffer ∙ s.shows) ∙ shown-window (file_bytes b fs) q.offset out

  -- any call, before others
  with_call : (q : Request) (out last : List ℕ) (r : ReadAnswer) → Reads q out last r → IfAccepted b fs q (length out) r
      → (cs : List Call) → Faithful (file_bytes b fs) (reads_of cs) → Faithful (file_bytes b fs) (read_by q.offset out last r ∷ reads_of cs)
  with_call q out last (Ok count) promise given cs later = (filled-window q out last count promise given, later)
  with_call q out last (Err r) promise given cs later = later

  pub faithful : (cs : List Call) → AllGiven b fs cs → Faithful (file_bytes b fs) (reads_of cs)
  faithful [] given = tt
  faithful (c ∷ cs) given = with_call c.request c.out c.last c.answer c.promise given.0 cs (faithful cs given.1)
