-- THE STARRED FIGURES of document 01, as one table over the definitions. Assumes nothing.
use Rattle.std.specs.Prelude.{◌≡◌, Bool, true, false, List, [], ◌∷◌, ◌++◌, ℕ, ◌+◌, ◌*◌, length, take, drop, set, None, Some, Ok, Err}
use Rattle.chunk.specs.Number.{num}
use Rattle.chunk_names.specs.Name.{ascii, property_order, info_order, local_order}
use Rattle.frame_time.specs.Time.{time_of}
use Rattle.tree.specs.Tree.{bytes}
use Rattle.chunk_names.specs.declared.PropertyChunk.TheVariants.{CompressionType}
use Rattle.checksum.specs.Crc.{crc_of}
use Rattle.dst.specs.Unit.{sizes}
use Rattle.dst.specs.Head.{data_size}
use Rattle.dst_index.specs.declared.index.DstIndexOffset.{DstIndexOffset}
use Rattle.dst_index.specs.declared.index.DstIndexOffset.TheVariants.{ChunkHeader, FrameData}
use Rattle.prop.specs.Property.{content_of, property_chunks}
use Rattle.prop_fields.specs.declared.compression.Sound.{Sound}
use Rattle.prop_fields.specs.declared.compression.Sound.TheVariants.{Dsd, Dst}
use Rattle.prop_fields.specs.declared.layout.Layout.TheVariants.{Stereo}
use Rattle.prop_fields.specs.Start.{Start}
use Rattle.refusal.specs.declared.verdict.Refusal.TheVariants as refused
use Rattle.refusal.specs.Verdict.{number_of, detail_of}
use Rattle.build_options.specs.declared.options.Options.{Options}
use Rattle.build_options.specs.Options.{defaults}
use Rattle.build_options.specs.Inputs.{Inputs}
use Rattle.checks.specs.InputVerdict.{verdict}
use Rattle.file_tree.specs.Parts.{parts, properties, index_of}
use Rattle.file_tree.specs.File.{place, sound_length, form_size, header_of, trailer_of}

-- a stereo build of so many positions, with these lengths and options; nothing else is given
abbrev pub build : Sound → ℕ → List ℕ → Options → Inputs
build sound positions lengths options = record {
  area = record { sound = sound; playtime = positions; channels = 2; layout = Stereo; first = 0; end = positions };
  options = options;
  property_order = property_order;
  info_order = info_order;
  local_order = local_order;
  local_count = 5;
  pool = [];
  raw = [];
  tracks = [];
  markers = [];
  comments = [];
  callers = [];
  lengths = lengths;
}

-- the defaults, but for D1, the start, what the index's offsets lead to, and the CRC
abbrev pub with : Bool → Start → DstIndexOffset → Bool → Options
with d1 start offset crc = record defaults { d1 = d1; absolute_start = start; dst_index_offset = offset; dst_crc = crc }

-- one position of DSD: the defaults; D1; a start
abbrev pub dsd : Inputs
dsd = build Dsd 1 [] defaults

abbrev pub dsd_d1 : Inputs
dsd_d1 = build Dsd 1 [] (with true None ChunkHeader false)

abbrev pub dsd-from : ℕ → Inputs
dsd-from frame = build Dsd 1 [] (with false (Some frame) ChunkHeader false)

-- two frames of DST, of 3 and 4 bytes: the defaults; `FrameData`; CRC
abbrev pub dst_default : Inputs
dst_default = build Dst 2 (3 ∷ 4 ∷ []) defaults

abbrev pub dst_data : Inputs
dst_data = build Dst 2 (3 ∷ 4 ∷ []) (with false None FrameData false)

abbrev pub dst-crc : Inputs
dst-crc = build Dst 2 (3 ∷ 4 ∷ []) (with false None ChunkHeader true)

-- the data sizes of PROP, CMPR and DST, the length of the file, the offset in entry i
abbrev pub prop_size : Inputs → ℕ
prop_size x = length (ascii "SND " ++ bytes (property_chunks x.property_order (properties (parts x))))

abbrev pub cmpr_size : Inputs → ℕ
cmpr_size x = length (content_of (properties (parts x)) CompressionType)

abbrev pub dst_size : Inputs → ℕ
dst_size x = data_size (sizes x.options.dst_crc x.lengths)

abbrev pub file_size : Inputs → ℕ
file_size x = length (header_of x) + sound_length x + length (trailer_of x)

abbrev pub offset_at : Inputs → ℕ → ℕ
offset_at x i = num (take 8 (drop (12 * i) (index_of (parts x) (place x))))

pub record StarredFigures : Type 0 where
  -- "Stereo DSD, 1 position, defaults: PROP size 88, header 144, FRM8 size 9,540, file 9,552"
  pub dsd_prop : prop_size dsd ≡ 88
  pub dsd-header : length (header_of dsd) ≡ 144
  pub dsd-form : form_size dsd ≡ 9_540
  pub dsd-file : file_size dsd ≡ 9_552
  -- "With D1 only CMPR's size moves, 19 to 20; FRM8 stays" (the size's last byte is byte 97 of the header, counted from 0)
  pub cmpr-19 : cmpr_size dsd ≡ 19
  pub cmpr-20 : cmpr_size dsd_d1 ≡ 20
  pub d1_form : form_size dsd_d1 ≡ 9_540
  pub d1_only : header_of dsd_d1 ≡ set (header_of dsd) 97 20
  -- "Stereo DST, lengths 3 and 4: header 158, DST size 50, FRM8 size 214, file 226"
  pub dst-header : length (header_of dst_default) ≡ 158
  pub dst-size : dst_size dst_default ≡ 50
  pub dst-form : form_size dst_default ≡ 214
  pub dst-file : file_size dst_default ≡ 226
  -- "Its entries: 158 and 174; under `FrameData` 170 and 186; with CRC 158 and 190, file 258"
  pub entries : offset_at dst_default 0 ∷ offset_at dst_default 1 ∷ [] ≡ 158 ∷ 174 ∷ []
  pub entries_data : offset_at dst_data 0 ∷ offset_at dst_data 1 ∷ [] ≡ 170 ∷ 186 ∷ []
  pub entries-crc : offset_at dst-crc 0 ∷ offset_at dst-crc 1 ∷ [] ≡ 158 ∷ 190 ∷ []
  pub crc-file : file_size dst-crc ≡ 258
  -- "Frame 6,479,999 is 23:59:59, 2,784,768 samples; start 6,479,998 with 1 position passes, 6,479,999 is 29"
  pub last_time : time_of 6_479_999 ≡ record { hours = 23; minutes = 59; seconds = 59; samples = 2_784_768 }
  pub start-passes : verdict (dsd-from 6_479_998) ≡ Ok tt
  pub start-is-29 : verdict (dsd-from 6_479_999) ≡ Err refused.Start
  pub start-number : number_of (verdict (dsd-from 6_479_999)) ≡ 29
  pub start-detail : detail_of (verdict (dsd-from 6_479_999)) ≡ 0
  -- "CRC of byte 1 is 0x80000011; of nothing, 0"
  pub crc-one : crc_of (1 ∷ []) ≡ 0x8000_0011
  pub crc-none : crc_of [] ≡ 0
