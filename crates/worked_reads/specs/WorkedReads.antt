-- A WORKED INSTANCE of demand 3: 01's figure "Stereo DST, lengths 3 and 4" with CRC (file 258, entries 158 and 190), and six reads of it, of which two are refused. Assumes nothing.
use Rattle.std.specs.Prelude.{true, List, [], ◌∷◌, ◌++◌, ℕ, ◌-◌, ◌^◌, replicate, Ok, Err}
use Rattle.chunk_names.specs.Name.{ascii}
use Rattle.tree.specs.Reader.{Report}
use Rattle.dst.specs.Frame.{Frame}
use Rattle.prop_fields.specs.declared.compression.Sound.TheVariants.{Dst}
use Rattle.file_tree.specs.File.{header_of, trailer_of}
use Rattle.starred_figures.specs.StarredFigures.{dst-crc}
use Rattle.refusal.specs.declared.verdict.Refusal.TheVariants.{NotLent, Format}
use Rattle.file_read.specs.Read.{Request}
use Rattle.old_readers.specs.Premises.{AcceptedBuild, Call}
use Rattle.worked_reads.specs.Instance.{WorkedRead, Instance, Worked, report_of, stereo_reports}

-- the frames: DST bytes of the given lengths, and plain contents of 9,408 bytes, whose CRCs are 0x80000011 and 0
abbrev pub first_frame : Frame
first_frame = record { code = 11 ∷ 12 ∷ 13 ∷ []; content = replicate 9_407 0 ++ (1 ∷ []) }

abbrev pub second_frame : Frame
second_frame = record { code = 21 ∷ 22 ∷ 23 ∷ 24 ∷ []; content = replicate 9_408 0 }

-- a read at an offset, lent these lengths, DST bytes and contents
abbrev pub dst_request : ℕ → ℕ → List ℕ → List ℕ → List ℕ → Request
dst_request channels offset lent codes contents = record {
  format = record { sound = Dst; crc = true; channels = channels; positions = 0 };
  lengths = 3 ∷ 4 ∷ [];
  header = header_of dst-crc;
  trailer = trailer_of dst-crc;
  offset = offset;
  lent = lent;
  frames = codes;
  contents = contents;
}

-- the header and two bytes of the first frame's DSTF
abbrev pub front_read : WorkedRead
front_read = record { request = dst_request 2 0 (3 ∷ []) first_frame.code first_frame.content; room = 160; answer = Ok 160 }

-- nothing is lent where a frame is needed: 43
abbrev pub unlent_read : WorkedRead
unlent_read = record { request = dst_request 2 160 [] [] []; room = 10; answer = Err NotLent }

-- the rest of both units, and two bytes of the trailer
abbrev pub middle_read : WorkedRead
middle_read = record {
  request = dst_request 2 160 (3 ∷ 4 ∷ []) (first_frame.code ++ second_frame.code) (first_frame.content ++ second_frame.content);
  room = 64;
  answer = Ok 64;
}

-- from the second frame's DSTC to the end
abbrev pub end_read : WorkedRead
end_read = record { request = dst_request 2 220 (4 ∷ []) second_frame.code second_frame.content; room = 100; answer = Ok 38 }

-- past the end
abbrev pub past_read : WorkedRead
past_read = record { request = dst_request 2 (2 ^ 64 - 1) [] [] []; room = 4; answer = Ok 0 }

-- seven channels: 42
abbrev pub seven_read : WorkedRead
seven_read = record { request = dst_request 7 0 [] [] []; room = 4; answer = Err Format }

-- what the readers get up to CMPR
abbrev pub dst_stereo : List Report
dst_stereo = stereo_reports (ascii "DST " ++ 11 ∷ ascii "DST Encoded")

abbrev pub dst_instance : Instance
dst_instance = record {
  inputs = dst-crc;
  frames = first_frame ∷ second_frame ∷ [];
  header_length = 158;
  sound_length = 64;
  trailer_length = 36;
  reads = front_read ∷ unlent_read ∷ middle_read ∷ end_read ∷ past_read ∷ seven_read ∷ [];
  numbers = 0 ∷ 43 ∷ 0 ∷ 0 ∷ 0 ∷ 42 ∷ [];
  details = 0 ∷ 0 ∷ 0 ∷ 0 ∷ 0 ∷ 0 ∷ [];
  sound_names = "FRM8DST " ∷ "DST FRTE" ∷ "DST DSTF" ∷ [];
  required_reports =
      dst_stereo
      ++ (report_of "FRM8" "DST " []
      ∷ report_of "DST " "FRTE" (0 ∷ 0 ∷ 0 ∷ 2 ∷ 0 ∷ 75 ∷ [])
      ∷ report_of "DST " "DSTF" (11 ∷ 12 ∷ 13 ∷ [])
      ∷ report_of "DST " "DSTF" (21 ∷ 22 ∷ 23 ∷ 24 ∷ [])
      ∷ []);
  all_reports =
      dst_stereo
      ++ (report_of "PROP" "LSCO" (0 ∷ 0 ∷ [])
      ∷ report_of "FRM8" "DST " []
      ∷ report_of "DST " "FRTE" (0 ∷ 0 ∷ 0 ∷ 2 ∷ 0 ∷ 75 ∷ [])
      ∷ report_of "DST " "DSTF" (11 ∷ 12 ∷ 13 ∷ [])
      ∷ report_of "DST " "DSTC" (128 ∷ 0 ∷ 0 ∷ 17 ∷ [])
      ∷ report_of "DST " "DSTF" (21 ∷ 22 ∷ 23 ∷ 24 ∷ [])
      ∷ report_of "DST " "DSTC" (0 ∷ 0 ∷ 0 ∷ 0 ∷ [])
      ∷ report_of "FRM8" "DSTI" (0 ∷ 0 ∷ 0 ∷ 0 ∷ 0 ∷ 0 ∷ 0 ∷ 158 ∷ 0 ∷ 0 ∷ 0 ∷ 3 ∷ 0 ∷ 0 ∷ 0 ∷ 0 ∷ 0 ∷ 0 ∷ 0 ∷ 190 ∷ 0 ∷ 0 ∷ 0 ∷ 4 ∷ [])
      ∷ []);
  end = 258;
}

abbrev pub WorkedReads : AcceptedBuild → List Call → Type 0
WorkedReads b cs = Worked dst_instance b cs
