-- What the old reader gets of DIIN: its chunks have the shape that it walks, and of MARK it gets the data without the pad. Assumes nothing.
use mathlib.Core.Path.{◌≡◌, refl}
use mathlib.Core.Bool.{Bool}
use mathlib.Core.List.{List, []}
use Prim.Native.Nat.{ℕ, ◌^◌, ◌<◌}
use lib.ListN.{length}
use Rattle.chunk_names.specs.Name.{Name, ascii, same}
use Rattle.chunk.specs.Chunk.{counts}
use Rattle.tree.specs.Tree.{stop, node}
use Rattle.tree.specs.Reader.{Shaped}
use Rattle.tree.specs.Value.{inner, value, dsdiff}
use Rattle.chunk_names.specs.declared.InfoChunk.{InfoChunk}
use Rattle.chunk_names.specs.declared.InfoChunk.TheVariants.{EditedMasterId, Markers, Artist, Title}
use Rattle.tree.proofs.TreeLaws.{shaped_each, shaped_if}
use Rattle.tree.proofs.ValueLaws.{counted-text}
use Rattle.diin_texts.specs.DiinText.{Text}
use Rattle.std.specs.Prelude.{None, Some}
use Rattle.diin_texts.proofs.DiinTextLaws.{diin-text_shaped}
use Rattle.markers.specs.Marker.{mark_head, mark_data, mark}
use Rattle.master_info.specs.Diin.{marking, artist_of, title_of, emid, markers_of, info_chunk, info_chunks, has_diin, diin}
use Rattle.master_info.specs.declared.diin.Info.{Info}
use Rattle.markers.specs.declared.marker.Marker.{Marker}
use Rattle.markers.specs.declared.marker.Marking.{Marking}
use Rattle.markers.proofs.MarkerLaws.{length-mark_head}

-- MARK, with the pad in the data and without it
pub mark-value : (how : Marking) (m : Marker) (text : List ℕ) → length text < 256 ^ 4
    → value (ascii "DIIN") (ascii "MARK") (mark_data how m text) ≡ counts 4 (mark_head how m) text
unfolding value same mark_data
mark-value how m text small = counted-text 4 (mark_head how m) text _ 18 (length-mark_head how m) small

module _ (known : Name → Name → Bool) where
  emid_shaped : (raw : List ℕ) (id : Text) → Shaped (dsdiff known) (ascii "DIIN") (emid raw id)
  unfolding inner same
  emid_shaped raw None = tt
  emid_shaped raw (Some e) = (refl, refl, tt)

  mark_shaped : (pool raw : List ℕ) (how : Marking) (m : Marker) → Shaped (dsdiff known) (ascii "DIIN") (mark pool raw how m)
  unfolding mark inner same
  mark_shaped pool raw how m = (refl, refl, tt)

  module _ (pool raw tracks custom : List ℕ) (info : Info) where
    info_shaped : (part : InfoChunk) → Shaped (dsdiff known) (ascii "DIIN") (info_chunk pool raw tracks custom info part)
    unfolding inner same
    info_shaped EditedMasterId = emid_shaped raw info.emid
    info_shaped Markers = shaped_each (dsdiff known) (ascii "DIIN") _ (mark_shaped pool raw (marking info)) (markers_of tracks custom info)
    info_shaped Artist = diin-text_shaped (dsdiff known) (ascii "DIIN") (ascii "DIAR") refl refl pool (artist_of info) info.text
    info_shaped Title = diin-text_shaped (dsdiff known) (ascii "DIIN") (ascii "DITI") refl refl pool (title_of info) info.text

    pub diin_shaped : (order : List InfoChunk) → Shaped (dsdiff known) (ascii "FRM8") (diin pool raw tracks custom info order)
    unfolding diin inner same
    diin_shaped order =
        shaped_if (dsdiff known) (ascii "FRM8") (has_diin pool raw tracks custom info order) (node (ascii "DIIN") [] (info_chunks pool raw tracks custom info order) stop)
        (refl, refl, shaped_each (dsdiff known) (ascii "DIIN") _ info_shaped order, tt)
