-- An instance holds, if what is computed of it is so. Assumes nothing.
use mathlib.Core.Path.{◌≡◌, refl, ap, subst, ◌∙◌}
use mathlib.Core.Bool.{true, false, not}
use mathlib.Core.List.{List, [], ◌∷◌, map}
use mathlib.Core.Option.{some, IsSome}
use Prim.Native.Nat.{ℕ, zero, suc, ◌+◌, ◌<◌}
use native.Mathlib.Nat.{not-suc-le-zero, le_of_suc-le-suc}
use borrow.Author.Tests.{not-false}
use lib.ListN.{length, get_elem?}
use Rattle.std.specs.Prelude.{Ok}
use Rattle.tree.specs.Reader.{read}
use Rattle.tree.specs.Value.{dsdiff}
use Rattle.tree.specs.Gather.{covered, Holds}
use Rattle.dst.specs.Frame.{Frame}
use Rattle.refusal.specs.Below.{any}
use Rattle.refusal.specs.Verdict.{number_of, detail_of}
use Rattle.refusal.proofs.VerdictLaws.{none_so}
use Rattle.file_tree.specs.File.{trailer_of}
use Rattle.assemble.specs.Build.{Builds}
use Rattle.dsdiff.proofs.WholeLaws.{whole}
use Rattle.old_readers.specs.Premises.{AcceptedBuild, Call, Recorded, AllGiven, reads_of}
use Rattle.old_readers.specs.OldReaders.{file_bytes, gathered, OldReaders}
use Rattle.old_readers.proofs.OldReadersProof.{every-list-of-reads}
use Rattle.worked_reads.specs.Instance.{WorkedRead, Instance, Worked, blank, header_with_spare, required_names, all_names, worked_file, buffer_after}
use Rattle.worked_reads.proofs.CallLaws.{AllCompute, calls_of, called, all_given, places_of, all_cover}

-- where every place of the file is covered, the file is gathered
there : (l : List ℕ) (p : ℕ) → p < length l → IsSome (get_elem? l p)
there [] p h = absurd (not-suc-le-zero h)
there (x ∷ l) zero h = tt
there (x ∷ l) (suc p) h = there l p (le_of_suc-le-suc h)

all_gathered : (b : AcceptedBuild) (fs : List Frame) (cs : List Call) → OldReaders b fs cs
    → ((p : ℕ) → p < length (file_bytes b fs) → covered (reads_of cs) p ≡ true) → Holds (gathered cs) (file_bytes b fs)
all_gathered b fs cs old all = old.whole (λ p h. rw (old.covers p, all p h) (there (file_bytes b fs) p h))

module _ (w : Instance) where
  -- the build
  abbrev pub BuiltAs : Type 0
  BuiltAs =
      Builds w.inputs (blank (w.header_length + 2)) (header_with_spare w.inputs) (blank w.trailer_length) (trailer_of w.inputs)
      (Ok (record { header = w.header_length; sound = w.sound_length; trailer = w.trailer_length }))

  abbrev pub build_of : BuiltAs → AcceptedBuild
  build_of promise = record {
    inputs = w.inputs;
    header_before = blank (w.header_length + 2);
    header_buffer = header_with_spare w.inputs;
    trailer_before = blank w.trailer_length;
    trailer_buffer = trailer_of w.inputs;
    header_length = w.header_length;
    sound_length = w.sound_length;
    trailer_length = w.trailer_length;
    promise = promise;
  }

  -- all that is computed: the build, the frames' lengths, the reads with their numbers and details, that they leave no place of the file out, and what the readers get
  pub record Computed : Type 0 where
    pub built : BuiltAs
    pub recorded : Recorded w.inputs w.frames
    pub reads : AllCompute (build_of built) w.frames (worked_file w) w.reads
    pub numbers : map (λ (r : WorkedRead). number_of r.answer) w.reads ≡ w.numbers
    pub details : map (λ (r : WorkedRead). detail_of r.answer) w.reads ≡ w.details
    pub none_missed : any (λ p. not (covered (places_of w.reads) p)) (length (worked_file w)) ≡ false
    pub required_names_lem : read (dsdiff (required_names w.sound_names)) (worked_file w) ≡ some (record { reports = w.required_reports; end = w.end })
    pub all_names_lem : read (dsdiff all_names) (worked_file w) ≡ some (record { reports = w.all_reports; end = w.end })

  module _ (c : Computed) where
    abbrev pub worked_build : AcceptedBuild
    worked_build = build_of c.built

    abbrev pub worked_calls : List Call
    worked_calls = calls_of worked_build w.frames (worked_file w) w.reads c.reads

    given : AllGiven worked_build w.frames worked_calls
    given = all_given worked_build w.frames (worked_file w) w.reads c.reads

    -- demand 3, of this build and these calls
    old_readers : OldReaders worked_build w.frames worked_calls
    old_readers = every-list-of-reads worked_build w.frames c.recorded worked_calls given

    is-file : file_bytes worked_build w.frames ≡ worked_file w
    is-file = whole w.inputs _ _ c.built refl w.frames c.recorded.fits

    every-place : (p : ℕ) → p < length (worked_file w) → covered (reads_of worked_calls) p ≡ true
    every-place p h =
        all_cover worked_build w.frames (worked_file w) w.reads c.reads p
        ∙ not-false (covered (places_of w.reads) p)
        (none_so (λ p. not (covered (places_of w.reads) p)) (length (worked_file w)) c.none_missed p h)

    gathers : Holds (gathered worked_calls) (worked_file w)
    gathers =
        subst (Holds (gathered worked_calls)) is-file
        (all_gathered worked_build w.frames worked_calls old_readers (λ p h. every-place p (rw (ap length is-file) at h)))

    pub worked : Worked w worked_build worked_calls
    worked = record {
      inputs = refl;
      lengths = refl;
      requests = called worked_build w.frames (worked_file w) (λ (c : Call). c.request) (λ (r : WorkedRead). r.request) (λ r a. refl) w.reads c.reads;
      outs = called worked_build w.frames (worked_file w) (λ (c : Call). c.out) (λ (r : WorkedRead). blank r.room) (λ r a. refl) w.reads c.reads;
      lasts = called worked_build w.frames (worked_file w) (λ (c : Call). c.last) (buffer_after w) (λ r a. refl) w.reads c.reads;
      answers = called worked_build w.frames (worked_file w) (λ (c : Call). c.answer) (λ (r : WorkedRead). r.answer) (λ r a. refl) w.reads c.reads;
      numbers =
          called worked_build w.frames (worked_file w) (λ (c : Call). number_of c.answer) (λ (r : WorkedRead). number_of r.answer) (λ r a. refl) w.reads c.reads
          ∙ c.numbers;
      details =
          called worked_build w.frames (worked_file w) (λ (c : Call). detail_of c.answer) (λ (r : WorkedRead). detail_of r.answer) (λ r a. refl) w.reads c.reads
          ∙ c.details;
      header = refl;
      trailer = refl;
      recorded = c.recorded;
      given = given;
      demand-3 = old_readers;
      gathers = gathers;
      required_names_lem = c.required_names_lem;
      all_names_lem = c.all_names_lem;
    }
