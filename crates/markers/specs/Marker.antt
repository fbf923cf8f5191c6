-- MARK (01: "MARK is the frame time of start (0 if none) + frame − first, 4 zero bytes, kind u16 (0 track start, 1 stop, 2 program start, 4 index), 2 zero
-- bytes, flags u16 (0 unless kind 0), text count u32, text, pad inside the size if pad-counted"). Assumes nothing.
use Rattle.std.specs.Prelude.{ℕ, ◌+◌, ◌-◌, List, [], ◌++◌, length}
use Rattle.chunk.specs.Number.{be}
use Rattle.chunk_names.specs.Name.{ascii}
use Rattle.frame_time.specs.Time.{time_of, time_bytes}
use Rattle.chunk.specs.Chunk.{counts}
use Rattle.tree.specs.Tree.{Chunks, stop, leaf}
use Rattle.texts.specs.Extent.{part}
use Rattle.texts.specs.Text.{text_bytes, text_pad}
use Rattle.texts.specs.declared.text.TextRule.{TextRule}
use Rattle.prop_fields.specs.Start.{start_frame}
use Rattle.markers.specs.declared.marker.MarkerKind.{MarkerKind}
use Rattle.markers.specs.declared.marker.MarkerKind.TheVariants.{TrackStart, TrackStop, ProgramStart, Index}
use Rattle.markers.specs.declared.marker.MarkerText.{MarkerText}
use Rattle.markers.specs.declared.marker.MarkerText.TheVariants.{Empty, Bytes, Title}
use Rattle.markers.specs.declared.marker.Marker.{Marker}
use Rattle.markers.specs.declared.marker.Marking.{Marking}

abbrev pub kind_number : MarkerKind → ℕ
kind_number TrackStart = 0
kind_number TrackStop = 1
kind_number ProgramStart = 2
kind_number Index = 4

-- the flags that a marker of a kind is written with: only a track start has any
abbrev pub kind_flags : MarkerKind → ℕ → ℕ
kind_flags TrackStart flags = flags
kind_flags TrackStop flags = 0
kind_flags ProgramStart flags = 0
kind_flags Index flags = 0

abbrev pub flags_of : Marker → ℕ
flags_of m = kind_flags m.kind m.track_flags

-- the two fields that hold zero: the offset in samples (4 bytes) and the channel (2 bytes)
abbrev pub mark_offset : ℕ
mark_offset = 0

abbrev pub mark_channel : ℕ
mark_channel = 0

-- a marker's text in the file: bytes of the byte pool as they are, a title of the text pool converted
abbrev pub marker_text : List ℕ → List ℕ → TextRule → MarkerText → List ℕ
marker_text pool bytes rule Empty = []
marker_text pool bytes rule (Bytes e) = part bytes e
marker_text pool bytes rule (Title e) = text_bytes rule (part pool e)

-- the frame whose time is written, from 0 on
abbrev pub frame_of : Marking → Marker → ℕ
frame_of how m = start_frame how.start + m.frame - how.first

-- the 18 bytes before the text's count
unfoldable pub mark_head : Marking → Marker → List ℕ
mark_head how m = time_bytes (time_of (frame_of how m)) ++ be 4 mark_offset ++ be 2 (kind_number m.kind) ++ be 2 mark_channel ++ be 2 (flags_of m)

-- the data of MARK, of a text in the file
unfoldable pub mark_data : Marking → Marker → List ℕ → List ℕ
mark_data how m text = counts 4 (mark_head how m) text ++ text_pad how.text (length text)

-- MARK, of a marker whose text is in the pools
unfoldable pub mark : List ℕ → List ℕ → Marking → Marker → Chunks
mark pool bytes how m = leaf (ascii "MARK") (mark_data how m (marker_text pool bytes how.text.rule m.text)) stop
