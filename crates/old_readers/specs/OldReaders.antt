-- DEMAND 3, as one claim about any list of reads of one accepted build, refused ones included, from nothing gathered. The hypotheses are what build and read promise, and the
-- premises of specs/Premises.antt; nothing else. Assumes nothing.
use Rattle.std.specs.Prelude.{◌≡◌, Bool, cond, List, [], ◌∷◌, ◌++◌, ℕ, ◌+◌, ◌-◌, ◌*◌, ◌<◌, length, take, drop, get_or}
use Rattle.std.proofs.Math.Option.{none, some, IsSome}
use Rattle.std.proofs.Math.ListN.{get_elem?}
use Rattle.chunk.specs.Number.{num}
use Rattle.chunk_names.specs.Name.{Name, ascii}
use Rattle.chunk.specs.Chunk.{chunk}
use Rattle.tree.specs.Reader.{Walked, read}
use Rattle.tree.specs.Value.{dsdiff}
use Rattle.tree.specs.Gather.{Gathered, nothing, gather, covered, Holds}
use Rattle.dst.specs.Frame.{Frame}
use Rattle.dst.specs.Unit.{lengths, sizes}
use Rattle.dst.specs.Start.{start}
use Rattle.dst_index.specs.Index.{shift_of, Stands}
use Rattle.dst_index.specs.declared.index.DstIndexOffset.{DstIndexOffset}
use Rattle.prop_fields.specs.declared.compression.Sound.TheVariants.{Dst}
use Rattle.build_options.specs.Inputs.{Inputs}
use Rattle.file_tree.specs.Sound.{sound_bytes}
use Rattle.file_reports.specs.Values.{told}
use Rattle.file_reports.specs.Recording.{Known, Knows, values_under, Recording, Indexed}
use Rattle.old_readers.specs.Premises.{AcceptedBuild, Call, Recorded, AllGiven, reads_of}

-- the whole file, of what was built and given (01: "the whole file, header, sound and trailer joined"): the two buffers up to the lengths that the build answered, and between them
-- the sound of the frames; and what the calls gather from nothing
abbrev pub file_bytes : AcceptedBuild → List Frame → List ℕ
file_bytes b fs =
    take b.header_length b.header_buffer ++ sound_bytes b.inputs.area.sound b.inputs.options.dst_crc fs ++ take b.trailer_length b.trailer_buffer

abbrev pub gathered : List Call → Gathered
gathered cs = gather nothing (reads_of cs)

-- the place that entry i of an index tells, by the option of what an offset leads to, and the length that it tells
abbrev pub entry_place : DstIndexOffset → List ℕ → ℕ → ℕ
entry_place o index i = num (take 8 (drop (12 * i) index)) - shift_of o

abbrev pub entry_length : List ℕ → ℕ → ℕ
entry_length index i = num (take 4 (drop (12 * i + 8) index))

-- The index of a DST build: 12 bytes a frame and no more; entry i tells the place of its own frame's DSTF, as far behind the header as the units of the frames before it are long (no
-- other frame's, though it had the same bytes), and that frame's length; and there in the file its DSTF stands.
pub record OwnEntries (b : AcceptedBuild) (fs : List Frame) (index : List ℕ) : Type 0 where
  pub many : length index ≡ 12 * length fs
  pub own : (i : ℕ) → i < length fs
      → entry_place b.inputs.options.dst_index_offset index i ≡ b.header_length + start (sizes b.inputs.options.dst_crc (lengths fs)) i
  pub long : (i : ℕ) (unused : Frame) → i < length fs → entry_length index i ≡ length (get_or fs i unused).code
  pub leads : (i : ℕ) (unused : Frame) → i < length fs
      → Stands (file_bytes b fs) (entry_place b.inputs.options.dst_index_offset index i) (chunk (ascii "DSTF") (get_or fs i unused).code)

-- What an old reader that knows some names gets of a file s: (b) its reports are exactly the known chunks that 01's rules make of inputs and frames, in file order, and (c) its
-- walk ends on the last byte. Among the reports stand, each once, the channels, the compression and every frame that were given; and the index, if it knows it and there is one.
pub record Gets (known : Name → Name → Bool) (x : Inputs) (fs : List Frame) (s : List ℕ) : Type 0 where
  pub reports : read (dsdiff known) s ≡ some (record { reports = told known x fs; end = length s })
  pub recording : Recording x fs (told known x fs)
  pub index : Known known (ascii "FRM8") (ascii "DSTI") → Indexed x (told known x fs)

pub record OldReaders (b : AcceptedBuild) (fs : List Frame) (cs : List Call) : Type 0 where
  -- (a) the places gathered are those of the file that the accepted reads' offsets and buffer lengths cover, each with the file's byte
  pub covers : (p : ℕ) → gathered cs p ≡ cond (covered (reads_of cs) p) (get_elem? (file_bytes b fs) p) none
  -- (b), (c) once they are the whole file, of every list of bytes that is gathered, and for every reader that knows the names that it is to know
  pub gets : ((p : ℕ) → p < length (file_bytes b fs) → IsSome (gathered cs p)) → (s : List ℕ) → Holds (gathered cs) s
      → (known : Name → Name → Bool) → Knows known b.inputs.area.sound → Gets known b.inputs fs s
  -- there is such a list: the file
  pub whole : ((p : ℕ) → p < length (file_bytes b fs) → IsSome (gathered cs p)) → Holds (gathered cs) (file_bytes b fs)
  -- (d) of a DST build: in the index that such a reader reports, each entry leads to its own frame
  pub index : b.inputs.area.sound ≡ Dst → (known : Name → Name → Bool) → Knows known b.inputs.area.sound → Known known (ascii "FRM8") (ascii "DSTI")
      → (w : Walked) → read (dsdiff known) (file_bytes b fs) ≡ some w
      → (index : List ℕ) → values_under (ascii "FRM8") (ascii "DSTI") w.reports ≡ index ∷ [] → OwnEntries b fs index

-- THE STATEMENT: of every accepted build, all frames of the lengths that it was given, and every list of calls
abbrev pub EveryListOfReads : Type 0
EveryListOfReads = (b : AcceptedBuild) (fs : List Frame) → Recorded b.inputs fs → (cs : List Call) → AllGiven b fs cs → OldReaders b fs cs
