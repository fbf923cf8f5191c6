-- A WORKED INSTANCE of demand 3: a build and a list of reads, spelled out, and two readers, one that knows only the names that it is to know and one that knows all, with what each
-- of them gets. Assumes nothing.
use Rattle.std.specs.Prelude.{◌≡◌, Bool, true, List, [], ◌∷◌, ◌++◌, map, ℕ, length, drop, replicate, Ok, Err}
use Rattle.std.proofs.Math.Option.{some}
use Prim.Native.String as String
use Rattle.chunk_names.specs.Name.{Name, ascii, among}
use Rattle.tree.specs.Tree.{bytes}
use Rattle.tree.specs.Reader.{Report, read}
use Rattle.tree.specs.Value.{dsdiff}
use Rattle.tree.specs.Gather.{window, Holds}
use Rattle.dst.specs.Frame.{Frame}
use Rattle.build_options.specs.Inputs.{Inputs}
use Rattle.file_tree.specs.File.{header_of, trailer_of, file_of}
use Rattle.refusal.specs.Verdict.{number_of, detail_of}
use Rattle.read_answer.specs.Answer.{ReadAnswer}
use Rattle.file_read.specs.Read.{Request}
use Rattle.old_readers.specs.Premises.{AcceptedBuild, Call, Recorded, AllGiven}
use Rattle.old_readers.specs.OldReaders.{gathered, OldReaders}

-- a read: what it is given, the length of its buffer, and its answer
pub record WorkedRead : Type 0 where
  pub request : Request
  pub room : ℕ
  pub answer : ReadAnswer

-- what is given, and what comes of it
pub record Instance : Type 0 where
  pub inputs : Inputs
  pub frames : List Frame
  -- of the parts of the file
  pub header_length : ℕ
  pub sound_length : ℕ
  pub trailer_length : ℕ
  -- in their order
  pub reads : List WorkedRead
  -- the numbers and the details of their answers, 0 of those that fill
  pub numbers : List ℕ
  pub details : List ℕ
  -- the names of the sound that a reader is to know, what it reports, and what one reports that knows all; and where their walks end
  pub sound_names : List String.String
  pub required_reports : List Report
  pub all_reports : List Report
  pub end : ℕ

-- a buffer of so many bytes before a read or a build, and the header's after it: there are two bytes more than are needed
abbrev pub blank : ℕ → List ℕ
blank room = replicate room 170

abbrev pub header_with_spare : Inputs → List ℕ
header_with_spare x = header_of x ++ blank 2

-- a buffer after a read that filled a file's bytes from an offset on
abbrev pub holding : List ℕ → ℕ → ℕ → List ℕ
holding file offset room = window file offset room ++ drop (length (window file offset room)) (blank room)

-- after a read with this answer: a refused one leaves it as it was
abbrev pub holding_by : ReadAnswer → List ℕ → ℕ → ℕ → List ℕ
holding_by (Ok count) file offset room = holding file offset room
holding_by (Err r) file offset room = blank room

-- the two readers: one knows the names that it is to know, each written behind its parent's, with those of the sound; the other all
abbrev pub required_names : List String.String → Name → Name → Bool
required_names sound parent name =
    among (parent ++ name) (map ascii ("FRM8" ∷ "FRM8FVER" ∷ "FRM8PROP" ∷ "PROPFS  " ∷ "PROPCHNL" ∷ "PROPCMPR" ∷ sound))

abbrev pub all_names : Name → Name → Bool
all_names parent name = true

abbrev pub report_of : String.String → String.String → List ℕ → Report
report_of parent name value = record { parent = ascii parent; name = ascii name; value = value }

-- what they get of a stereo file up to CMPR, whose value is given
abbrev pub stereo_reports : List ℕ → List Report
stereo_reports compression =
    report_of "" "FRM8" (ascii "DSD ")
    ∷ report_of "FRM8" "FVER" (1 ∷ 5 ∷ 0 ∷ 0 ∷ [])
    ∷ report_of "FRM8" "PROP" (ascii "SND ")
    ∷ report_of "PROP" "FS  " (0 ∷ 43 ∷ 17 ∷ 0 ∷ [])
    ∷ report_of "PROP" "CHNL" (0 ∷ 2 ∷ ascii "SLFTSRGT")
    ∷ report_of "PROP" "CMPR" compression
    ∷ []

module _ (w : Instance) where
  abbrev pub worked_file : List ℕ
  worked_file = bytes (file_of w.inputs w.frames)

  abbrev pub buffer_after : WorkedRead → List ℕ
  buffer_after r = holding_by r.answer worked_file r.request.offset r.room

  -- THE INSTANCE: this build and these calls meet all premises, demand 3 holds of them, the accepted reads gather the file, and the readers get these reports
  pub record Worked (b : AcceptedBuild) (cs : List Call) : Type 0 where
    pub inputs : b.inputs ≡ w.inputs
    pub lengths : b.header_length ∷ b.sound_length ∷ b.trailer_length ∷ [] ≡ w.header_length ∷ w.sound_length ∷ w.trailer_length ∷ []
    pub requests : map (λ (c : Call). c.request) cs ≡ map (λ (r : WorkedRead). r.request) w.reads
    pub outs : map (λ (c : Call). c.out) cs ≡ map (λ (r : WorkedRead). blank r.room) w.reads
    pub lasts : map (λ (c : Call). c.last) cs ≡ map buffer_after w.reads
    pub answers : map (λ (c : Call). c.answer) cs ≡ map (λ (r : WorkedRead). r.answer) w.reads
    pub numbers : map (λ (c : Call). number_of c.answer) cs ≡ w.numbers
    pub details : map (λ (c : Call). detail_of c.answer) cs ≡ w.details
    pub header : b.header_buffer ≡ header_with_spare w.inputs
    pub trailer : b.trailer_buffer ≡ trailer_of w.inputs
    pub recorded : Recorded b.inputs w.frames
    pub given : AllGiven b w.frames cs
    pub demand-3 : OldReaders b w.frames cs
    pub gathers : Holds (gathered cs) worked_file
    pub required_names_lem : read (dsdiff (required_names w.sound_names)) worked_file ≡ some (record { reports = w.required_reports; end = w.end })
    pub all_names_lem : read (dsdiff all_names) worked_file ≡ some (record { reports = w.all_reports; end = w.end })
