-- DEMAND 3 FOR CALLERS OF THE EXPORTED FUNCTIONS, who know a number and values. A call of `jangqeruz_build` that answered 0 is an accepted build; calls of `jangqeruz_read` are calls of
-- `read`, accepted where they answered 0, and `OldReaders` holds of them. (Any other number is a refusal's: specs/Refusals.antt.) Assumes nothing.
use Rattle.std.specs.Prelude.{◌≡◌, Ok, cond, List, [], ◌∷◌, map, ℕ, eqb, length, take, get_or}
use Rattle.chunk.specs.Append.{overlay}
use Rattle.tree.specs.Gather.{Read, refused, accepted}
use Rattle.dst.specs.Frame.{Frame}
use Rattle.build_options.specs.Inputs.{Inputs}
use Rattle.words.specs.Inputs.{inputs_of_words}
use Rattle.words.specs.Border.{words_fault}
use Rattle.assemble.specs.Build.{Builds}
use Rattle.file_read.specs.Read.{Request}
use Rattle.abi.specs.Build.{Exported}
use Rattle.abi.specs.Reads as abi
use Rattle.old_readers.specs.Premises.{AcceptedBuild, Call, Recorded, WasGiven, reads_of}
use Rattle.old_readers.specs.OldReaders.{OldReaders}

-- a call of `jangqeruz_build` and the number that it answered: the words and lent slices, and what was in its buffers before and after
pub record ExportedBuild : Type 0 where
  pub words : List ℕ
  pub pool : List ℕ
  pub raw : List ℕ
  pub tracks : List ℕ
  pub markers : List ℕ
  pub comments : List ℕ
  pub callers : List ℕ
  pub lengths : List ℕ
  pub header_before : List ℕ
  pub header_buffer : List ℕ
  pub trailer_before : List ℕ
  pub trailer_buffer : List ℕ
  pub values_before : List ℕ
  pub values : List ℕ
  pub number : ℕ
  pub promise : Exported (words_fault words) (inputs_of_words words pool raw tracks markers comments callers lengths)
      header_before header_buffer trailer_before trailer_buffer values_before values number

-- the inputs that its words mean
abbrev pub inputs_by : ExportedBuild → Inputs
inputs_by e = inputs_of_words e.words e.pool e.raw e.tracks e.markers e.comments e.callers e.lengths

-- its words have no fault, it was accepted, and the lengths of header, sound and trailer are in the values, as many as they had room for
pub record Accepts (e : ExportedBuild) : Type 0 where
  pub border : words_fault e.words ≡ Ok tt
  pub header : ℕ
  pub sound : ℕ
  pub trailer : ℕ
  pub promise : Builds (inputs_by e) e.header_before e.header_buffer e.trailer_before e.trailer_buffer (Ok (record { header = header; sound = sound; trailer = trailer }))
  pub told : e.values ≡ overlay e.values_before 0 (header ∷ sound ∷ trailer ∷ [])

abbrev pub build_of : (e : ExportedBuild) → Accepts e → AcceptedBuild
build_of e a = record {
  inputs = inputs_by e;
  header_before = e.header_before;
  header_buffer = e.header_buffer;
  trailer_before = e.trailer_before;
  trailer_buffer = e.trailer_buffer;
  header_length = a.header;
  sound_length = a.sound;
  trailer_length = a.trailer;
  promise = a.promise;
}

-- THE STATEMENT of builds: each that answered 0
abbrev pub EveryExportedBuild : Type 0
EveryExportedBuild = (e : ExportedBuild) → e.number ≡ 0 → Accepts e

-- a call of `jangqeruz_read`
pub record ExportedRead : Type 0 where
  pub request : Request
  pub out : List ℕ
  pub last : List ℕ
  pub value : List ℕ
  pub number : ℕ
  pub promise : abi.ReadAnswered request out last value number

abbrev pub call_of : ExportedRead → Call
call_of c = record { request = c.request; out = c.out; last = c.last; answer = c.promise.answer; promise = c.promise.promise }

-- what it adds to what is gathered: if it answered 0, as many bytes as it says, at its offset; else nothing
abbrev pub exported_read : ExportedRead → Read
exported_read c = cond (eqb c.number 0) (accepted c.request.offset (length c.out) (take (get_or c.value 0 0) c.last)) refused

-- each that answered 0 was given what the build was given and made, and lent the needed frames
abbrev pub AllGivenBy : AcceptedBuild → List Frame → List ExportedRead → Type 0
AllGivenBy b fs [] = Unit {0}
AllGivenBy b fs (c ∷ cs) = (c.number ≡ 0 → WasGiven b fs c.request (length c.out)) × AllGivenBy b fs cs

-- what they gather is by their numbers and values, and demand 3 holds of it
pub record ExportedReads (b : AcceptedBuild) (fs : List Frame) (cs : List ExportedRead) : Type 0 where
  pub reads : reads_of (map call_of cs) ≡ map exported_read cs
  pub holds : OldReaders b fs (map call_of cs)

-- THE STATEMENT of reads
abbrev pub EveryListOfExportedReads : Type 0
EveryListOfExportedReads = (e : ExportedBuild) (a : Accepts e) (fs : List Frame) → Recorded (inputs_by e) fs → (cs : List ExportedRead) → AllGivenBy (build_of e a) fs cs
    → ExportedReads (build_of e a) fs cs
