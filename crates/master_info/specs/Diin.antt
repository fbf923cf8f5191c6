-- DIIN (01: "With info on, DIIN holds in info order EMID (its bytes, if on), every MARK, DIAR and DITI; with info off there is no DIIN. Empty DIIN is written only
-- under its option"). Assumes nothing.
use Rattle.std.specs.Prelude.{ℕ, ◌-◌, ◌^◌, Bool, cond, not, ◌&&◌, ◌||◌, List, [], length, eqb, ltb, None, Some}
use Rattle.chunk_names.specs.Name.{ascii}
use Rattle.tree.specs.Tree.{Chunks, stop, leaf, node, bytes, each}
use Rattle.chunk_names.specs.declared.InfoChunk.{InfoChunk}
use Rattle.chunk_names.specs.declared.InfoChunk.TheVariants.{EditedMasterId, Markers, Artist, Title}
use Rattle.texts.specs.Extent.{part}
use Rattle.diin_texts.specs.DiinText.{Text, diin_text_chunk}
use Rattle.markers.specs.declared.marker.Marker.{Marker}
use Rattle.markers.specs.declared.marker.Marking.{Marking}
use Rattle.master_info.specs.declared.diin.Info.{Info}
use Rattle.markers.specs.Marker.{mark}
use Rattle.tracks.specs.Track.{spans}
use Rattle.track_markers.specs.Program.{from_toc}
use Rattle.markers.specs.Custom.{customs}
use Rattle.master_info.specs.Pick.{pick}

-- how the markers are written
abbrev pub marking : Info → Marking
marking info = record { text = info.text; start = info.start; first = info.program.first }

-- the markers: those that are given, or those made from tracks
unfoldable pub markers_of : List ℕ → List ℕ → Info → List Marker
markers_of tracks custom info = cond info.custom_markers (customs custom) (from_toc info.program (spans tracks))

-- one of the texts of track and album, if they are wanted
abbrev pub chosen : Info → Text → Text → Text
chosen info track album =
    cond info.artist_title (pick info.artist_title_source (not (eqb info.program.source_track 0)) track album) None

abbrev pub artist_of : Info → Text
artist_of info = chosen info info.track.artist info.album.artist

abbrev pub title_of : Info → Text
title_of info = chosen info info.track.title info.album.title

-- EMID, if it is on: its bytes as they are
abbrev pub emid : List ℕ → Text → Chunks
emid bytes None = stop
emid bytes (Some e) = leaf (ascii "EMID") (part bytes e) stop

module _ (pool bytePool tracks custom : List ℕ) (info : Info) where
  -- a chunk of DIIN, or the run of MARK chunks
  abbrev pub info_chunk : InfoChunk → Chunks
  info_chunk EditedMasterId = emid bytePool info.emid
  info_chunk Markers = each (mark pool bytePool (marking info)) (markers_of tracks custom info)
  info_chunk Artist = diin_text_chunk (ascii "DIAR") pool (artist_of info) info.text
  info_chunk Title = diin_text_chunk (ascii "DITI") pool (title_of info) info.text

  -- the chunks of DIIN, in the given order
  abbrev pub info_chunks : List InfoChunk → Chunks
  info_chunks order = each info_chunk order

  -- Whether there is a DIIN: info is on, and it holds a chunk or may be empty. (One whose size passes what a cursor can tell is not written.)
  unfoldable pub has_diin : List InfoChunk → Bool
  has_diin order = let size = length (bytes (info_chunks order)) in info.on && ((info.empty_info || not (eqb size 0)) && ltb size (2 ^ 64 - 1))

  -- DIIN, or nothing
  unfoldable pub diin : List InfoChunk → Chunks
  diin order = cond (has_diin order) (node (ascii "DIIN") [] (info_chunks order) stop) stop
