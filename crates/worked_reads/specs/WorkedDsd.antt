-- A SECOND WORKED INSTANCE of demand 3: one position of stereo DSD, with markers, artist, title, comments and a chunk of the caller's, most with an odd number of bytes, and pads
-- counted; and six reads of it, of which one is refused. Assumes nothing.
use Rattle.std.specs.Prelude.{true, false, List, [], ◌∷◌, ◌++◌, ℕ, ◌+◌, ◌*◌, replicate, Some, Ok, Err}
use Rattle.chunk.specs.Number.{num}
use Rattle.chunk_names.specs.Name.{ascii}
use Rattle.tree.specs.Reader.{Report}
use Rattle.prop_fields.specs.declared.compression.Sound.TheVariants.{Dsd}
use Rattle.build_options.specs.declared.options.Options.{Options}
use Rattle.build_options.specs.Options.{defaults}
use Rattle.build_options.specs.Inputs.{Inputs}
use Rattle.file_tree.specs.File.{header_of, trailer_of}
use Rattle.starred_figures.specs.StarredFigures.{build}
use Rattle.refusal.specs.declared.verdict.Refusal.TheVariants.{NotLent}
use Rattle.file_read.specs.Read.{Request}
use Rattle.old_readers.specs.Premises.{AcceptedBuild, Call}
use Rattle.worked_reads.specs.Instance.{WorkedRead, Instance, Worked, report_of, stereo_reports}

-- the defaults, but for: DIIN with the given markers, artist and title, and pads counted inside the sizes
abbrev pub tagged_options : Options
tagged_options = record defaults {
  edited_master_info = true;
  custom_markers = true;
  text_pad_counted = true;
  artist_title = Some true;
  album = record { artist = Some (record { start = 0; length = 3 }); title = Some (record { start = 3; length = 4 }) };
}

-- one position. Artist "Zoë", whose last letter is replaced, title "Duet", comments "Night" and "Live"; markers: a track's start at 0 with flags 2 and the text "One", and a stop at the
-- end without text, which has no flags. The caller's chunk has the name of DIIN's title and begins with a count of 0, but under FRM8 it is no text.
abbrev pub tagged_dsd : Inputs
tagged_dsd = record (build Dsd 1 [] tagged_options) {
  pool = ascii "Zo" ++ 235 ∷ ascii "DuetNightLive";
  raw = ascii "One" ++ (0 ∷ 0 ∷ 0 ∷ 0 ∷ 9 ∷ []);
  markers = 0 ∷ 2 ∷ 0 ∷ 3 ∷ 1 ∷ (1 * 65_536 + 2) ∷ 0 ∷ 0 ∷ [];
  comments = 2024 ∷ 5 ∷ 6 ∷ 7 ∷ 8 ∷ 0 ∷ 1 ∷ 7 ∷ 5 ∷ 2025 ∷ 12 ∷ 31 ∷ 23 ∷ 59 ∷ 3 ∷ 4 ∷ 12 ∷ 4 ∷ [];
  callers = num (ascii "DITI") ∷ 3 ∷ 5 ∷ [];
}

-- its frame: no byte is zero, and those at its ends and in its middle stand nowhere else
abbrev pub sound_content : List ℕ
sound_content = 1 ∷ replicate 4_702 105 ++ 2 ∷ 3 ∷ replicate 4_702 150 ++ (4 ∷ [])

-- a read at an offset, lent this content; DSD has no lengths and no DST bytes
abbrev pub dsd_request : ℕ → List ℕ → Request
dsd_request offset contents = record {
  format = record { sound = Dsd; crc = false; channels = 2; positions = 1 };
  lengths = [];
  header = header_of tagged_dsd;
  trailer = trailer_of tagged_dsd;
  offset = offset;
  lent = [];
  frames = [];
  contents = contents;
}

-- in the header, into PROP's size
abbrev pub in_header : WorkedRead
in_header = record { request = dsd_request 0 []; room = 41; answer = Ok 41 }

-- the rest of the header and half of the frame
abbrev pub header_and_sound : WorkedRead
header_and_sound = record { request = dsd_request 41 sound_content; room = 4_995; answer = Ok 4_995 }

-- no content is lent where the frame is needed: 43
abbrev pub without_content : WorkedRead
without_content = record { request = dsd_request 331 []; room = 2; answer = Err NotLent }

-- the other half, and five bytes of the trailer
abbrev pub sound_and_trailer : WorkedRead
sound_and_trailer = record { request = dsd_request 5_036 sound_content; room = 4_709; answer = Ok 4_709 }

-- from the fourth byte of the trailer on, with room for more than there is
abbrev pub in_trailer : WorkedRead
in_trailer = record { request = dsd_request 9_743 []; room = 100; answer = Ok 15 }

-- at the end
abbrev pub at_end : WorkedRead
at_end = record { request = dsd_request 9_758 []; room = 4; answer = Ok 0 }

-- what the readers get: up to CMPR; of the comments, whose first has no reference and a text of five bytes; and all
abbrev pub dsd_stereo : List Report
dsd_stereo = stereo_reports (ascii "DSD " ++ 14 ∷ ascii "not compressed")

abbrev pub comments_value : List ℕ
comments_value =
    0 ∷ 2 ∷ 7 ∷ 232 ∷ 5 ∷ 6 ∷ 7 ∷ 8 ∷ 0 ∷ 0 ∷ 0 ∷ 0 ∷ 0 ∷ 0 ∷ 0 ∷ 5
    ∷ ascii "Night"
    ++ 7 ∷ 233 ∷ 12 ∷ 31 ∷ 23 ∷ 59 ∷ 0 ∷ 3 ∷ 0 ∷ 4 ∷ 0 ∷ 0 ∷ 0 ∷ 4
    ∷ ascii "Live"

abbrev pub tagged_reports : List Report
tagged_reports =
    dsd_stereo
    ++ (report_of "PROP" "LSCO" (0 ∷ 0 ∷ [])
    ∷ report_of "FRM8" "COMT" comments_value
    ∷ report_of "FRM8" "DIIN" []
    ∷ report_of "DIIN" "EMID" []
    ∷ report_of "DIIN" "MARK" (0 ∷ 0 ∷ 0 ∷ 0 ∷ 0 ∷ 0 ∷ 0 ∷ 0 ∷ 0 ∷ 0 ∷ 0 ∷ 0 ∷ 0 ∷ 0 ∷ 0 ∷ 0 ∷ 0 ∷ 2 ∷ 0 ∷ 0 ∷ 0 ∷ 3 ∷ ascii "One")
    ∷ report_of "DIIN" "MARK" (0 ∷ 0 ∷ 0 ∷ 0 ∷ 0 ∷ 0 ∷ 147 ∷ 0 ∷ 0 ∷ 0 ∷ 0 ∷ 0 ∷ 0 ∷ 1 ∷ 0 ∷ 0 ∷ 0 ∷ 0 ∷ 0 ∷ 0 ∷ 0 ∷ 0 ∷ [])
    ∷ report_of "DIIN" "DIAR" (0 ∷ 0 ∷ 0 ∷ 3 ∷ ascii "Zo?")
    ∷ report_of "DIIN" "DITI" (0 ∷ 0 ∷ 0 ∷ 4 ∷ ascii "Duet")
    ∷ report_of "FRM8" "DSD " sound_content
    ∷ report_of "FRM8" "DITI" (0 ∷ 0 ∷ 0 ∷ 0 ∷ 9 ∷ [])
    ∷ [])

abbrev pub dsd_instance : Instance
dsd_instance = record {
  inputs = tagged_dsd;
  frames = record { code = []; content = sound_content } ∷ [];
  header_length = 332;
  sound_length = 9_408;
  trailer_length = 18;
  reads = in_header ∷ header_and_sound ∷ without_content ∷ sound_and_trailer ∷ in_trailer ∷ at_end ∷ [];
  numbers = 0 ∷ 0 ∷ 43 ∷ 0 ∷ 0 ∷ 0 ∷ [];
  details = 0 ∷ 0 ∷ 0 ∷ 0 ∷ 0 ∷ 0 ∷ [];
  sound_names = "FRM8DSD " ∷ [];
  required_reports = dsd_stereo ++ (report_of "FRM8" "DSD " sound_content ∷ []);
  all_reports = tagged_reports;
  end = 9_758;
}

abbrev pub WorkedDsd : AcceptedBuild → List Call → Type 0
WorkedDsd b cs = Worked dsd_instance b cs
