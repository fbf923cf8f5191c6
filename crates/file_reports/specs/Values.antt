-- THE VALUES of the chunks of a build's file, from inputs and frames: the tree of the file with each chunk's value in place of its data (01, "Old readers": "the data, counted
-- texts by their counts, pads left out (of a name that only a caller puts under this parent, all the data); but of FRM8 and PROP only the first four bytes, of DST and DIIN
-- none"). Assumes nothing.
use Rattle.std.specs.Prelude.{ℕ, Bool, cond, List, [], length, None, Some}
use Rattle.chunk.specs.Number.{be}
use Rattle.chunk_names.specs.Name.{Name, ascii}
use Rattle.chunk.specs.Chunk.{counts}
use Rattle.tree.specs.Tree.{Chunks, stop, leaf, node, join, each}
use Rattle.tree.specs.Reader.{Reader, Report, reports}
use Rattle.tree.specs.Value.{inner}
use Rattle.chunk_names.specs.declared.LocalChunk.{LocalChunk}
use Rattle.chunk_names.specs.declared.LocalChunk.TheVariants.{Property, SoundData, DstIndex, EditedMasterInfo, Comments}
use Rattle.chunk_names.specs.declared.PropertyChunk.{PropertyChunk}
use Rattle.chunk_names.specs.declared.PropertyChunk.TheVariants.{SampleRate, Channels, CompressionType, AbsoluteStartTime, LoudspeakerConfiguration}
use Rattle.chunk_names.specs.declared.InfoChunk.{InfoChunk}
use Rattle.chunk_names.specs.declared.InfoChunk.TheVariants.{EditedMasterId, Markers, Artist, Title}
use Rattle.frame_time.specs.Time.{time_of, time_bytes}
use Rattle.texts.specs.Extent.{part}
use Rattle.texts.specs.Text.{text_bytes, is_written}
use Rattle.texts.specs.declared.text.TextOptions.{TextOptions}
use Rattle.diin_texts.specs.DiinText.{Text, diin_text_value}
use Rattle.comt.specs.Comment.{written_comments, has_comt, comt_value}
use Rattle.dst.specs.Frame.{Frame}
use Rattle.prop_fields.specs.declared.compression.Sound.{Sound}
use Rattle.prop_fields.specs.declared.compression.Sound.TheVariants.{Dsd, Dst}
use Rattle.prop_fields.specs.Layout.{channel_names, speaker_code}
use Rattle.prop_fields.specs.Start.{start_frame}
use Rattle.prop.specs.declared.property.Properties.{Properties}
use Rattle.prop.specs.Property as property
use Rattle.markers.specs.declared.marker.Marker.{Marker}
use Rattle.markers.specs.declared.marker.Marking.{Marking}
use Rattle.markers.specs.Marker.{mark_head, marker_text}
use Rattle.master_info.specs.declared.diin.Info.{Info}
use Rattle.master_info.specs.Diin.{marking, markers_of, artist_of, title_of, emid, has_diin}
use Rattle.caller_chunks.specs.Caller.{caller_chunks}
use Rattle.build_options.specs.Inputs.{Inputs}
use Rattle.file_tree.specs.Parts.{Parts, parts, properties, info, has_index, index_of}
use Rattle.file_tree.specs.Sound.{sound_chunk}
use Rattle.file_tree.specs.Sides.{version}
use Rattle.file_tree.specs.File.{given, place}

-- CMPR: the compression type, and its name with its count
abbrev pub compression_value : Sound → List ℕ
compression_value Dsd = counts 1 (ascii "DSD ") (ascii "not compressed")
compression_value Dst = counts 1 (ascii "DST ") (ascii "DST Encoded")

-- CHNL: how many channels, and their names
abbrev pub channels_value : Properties → List ℕ
channels_value p = property.chnl_data (channel_names p.layout p.channels p.numbers)

-- the value of a chunk of PROP
unfoldable pub property_value : Properties → PropertyChunk → List ℕ
property_value p SampleRate = be 4 property.sample_rate
property_value p Channels = channels_value p
property_value p CompressionType = compression_value p.sound
property_value p AbsoluteStartTime = time_bytes (time_of (start_frame p.start))
property_value p LoudspeakerConfiguration = be 2 (speaker_code p.layout)

-- a chunk of PROP, if it is written
unfoldable pub property_told : Properties → PropertyChunk → Chunks
property_told p part = cond (property.is_property_written p part) (leaf (property.id_of part) (property_value p part) stop) stop

-- MARK: its 18 bytes, and the text with its count
unfoldable pub mark_told : List ℕ → List ℕ → Marking → Marker → Chunks
mark_told pool raw how m = leaf (ascii "MARK") (counts 4 (mark_head how m) (marker_text pool raw how.text.rule m.text)) stop

-- DIAR or DITI, if it is written: the text with its count
unfoldable pub converted_told : Name → List ℕ → TextOptions → Chunks
converted_told name text o = cond (is_written o (length text)) (leaf name (diin_text_value text) stop) stop

unfoldable pub text_told : Name → List ℕ → Text → TextOptions → Chunks
text_told name pool None o = stop
text_told name pool (Some text) o = converted_told name (text_bytes o.rule (part pool text)) o

-- a chunk of DIIN, or the run of MARK chunks
unfoldable pub info_told : List ℕ → List ℕ → List ℕ → List ℕ → Info → InfoChunk → Chunks
info_told pool raw tracks custom i EditedMasterId = emid raw i.emid
info_told pool raw tracks custom i Markers = each (mark_told pool raw (marking i)) (markers_of tracks custom i)
info_told pool raw tracks custom i Artist = text_told (ascii "DIAR") pool (artist_of i) i.text
info_told pool raw tracks custom i Title = text_told (ascii "DITI") pool (title_of i) i.text

-- a local chunk, if it is written; FRTE, DSTF and DSTC (or the DSD sound), DSTI and EMID have no pad in their data, so their values are their data
unfoldable pub local_told : Parts → ℕ → List Frame → LocalChunk → Chunks
local_told p base fs Property = node (ascii "PROP") (ascii "SND ") (each (property_told (properties p)) p.property_order) stop
local_told p base fs SoundData = sound_chunk p.area.sound p.options.dst_crc fs
local_told p base fs DstIndex = cond (has_index p) (leaf (ascii "DSTI") (index_of p base) stop) stop
local_told p base fs EditedMasterInfo =
    cond (has_diin p.pool p.raw p.tracks p.markers (info p) p.info_order)
    (node (ascii "DIIN") [] (each (info_told p.pool p.raw p.tracks p.markers (info p)) p.info_order) stop)
    stop
local_told p base fs Comments =
    let cs = written_comments p.pool p.comments (info p).text in
    cond (has_comt cs) (leaf (ascii "COMT") (comt_value cs) stop) stop

-- the whole file's; a caller's chunk has all its data
unfoldable pub file_told : Inputs → List Frame → Chunks
file_told x fs =
    node (ascii "FRM8") (ascii "DSD ")
    (leaf (ascii "FVER") version (join (each (local_told (parts x) (place x) fs) (given x)) (caller_chunks x.raw x.callers)))
    stop

-- the reader that takes values as they stand
abbrev pub plain : (Name → Name → Bool) → Reader
plain known = record { known = known; inner = inner; value = λ parent name content. content }

-- WHAT A READER THAT KNOWS SOME NAMES IS TO REPORT of the file: the known chunks in file order, each with its parent, its name and its value
abbrev pub told : (Name → Name → Bool) → Inputs → List Frame → List Report
told known x fs = reports (plain known) [] (file_told x fs)
