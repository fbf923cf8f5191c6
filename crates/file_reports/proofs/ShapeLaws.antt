-- THE SHAPE of the file of an accepted build: each chunk's name has four bytes, and containers stand where an old reader has containers. Assumes nothing.
use mathlib.Core.Path.{◌≡◌, refl, ap}
use mathlib.Core.Bool.{Bool}
use mathlib.Core.List.{List, [], ◌∷◌}
use Prim.Native.Nat.{ℕ}
use lib.ListN.{get_or}
use Rattle.chunk.specs.Number.{be}
use Rattle.chunk_names.specs.Name.{Name, ascii, same}
use Rattle.chunk.specs.Rows.{rows}
use Rattle.tree.specs.Tree.{Chunks, stop, leaf, join, each}
use Rattle.tree.specs.Reader.{Reader, Shaped}
use Rattle.tree.specs.Value.{inner, dsdiff}
use Rattle.chunk_names.specs.declared.LocalChunk.{LocalChunk}
use Rattle.chunk_names.specs.declared.LocalChunk.TheVariants.{Property, SoundData, DstIndex, EditedMasterInfo, Comments}
use Rattle.chunk.proofs.NumberLaws.{length-be}
use Rattle.tree.proofs.TreeLaws.{shaped_join, shaped_each, shaped_if}
use Rattle.comt.specs.Comment.{written_comments, comt_data, has_comt, comt_chunk}
use Rattle.checksum.specs.Crc.{crc_of}
use Rattle.dst.specs.Frame.{Frame}
use Rattle.dst.specs.Unit.{unit, units}
use Rattle.dst.specs.Head.{dst}
use Rattle.prop_fields.specs.declared.compression.Sound.{Sound}
use Rattle.prop_fields.specs.declared.compression.Sound.TheVariants.{Dsd, Dst}
use Rattle.prop.proofs.ReadLaws.{property_shaped}
use Rattle.markers.proofs.AllLaws.{All}
use Rattle.master_info.proofs.ReadLaws.{diin_shaped}
use Rattle.std.specs.Prelude.{Ok}
use Rattle.caller_chunks.specs.Caller.{caller_chunk, caller_chunks}
use Rattle.build_options.specs.Inputs.{Inputs}
use Rattle.checks.specs.InputVerdict.{verdict}
use Rattle.file_tree.specs.Parts.{Parts, parts, properties, info, has_index, index_of}
use Rattle.file_tree.specs.Sound.{sound_chunk}
use Rattle.file_tree.specs.File.{given, place, local_chunk, form_chunks, file_of}
use Rattle.file_reports.proofs.ReportLaws.{follows}
use Rattle.file_reports.proofs.CallerNameLaws.{free_inner, Free, callers_free}

-- chunks of elements of which each has the shape
shaped_all : (r : Reader) (parent : Name) {A : Type 0} (f : A → Chunks) (l : List A) → All (λ a. Shaped r parent (f a)) l → Shaped r parent (each f l)
unfolding each
shaped_all r parent f [] h = tt
shaped_all r parent f (a ∷ l) h = shaped_join r parent (f a) (each f l) h.0 (shaped_all r parent f l h.1)

-- the chunks of frames are those of each
pub units-each : (crc : Bool) (fs : List Frame) → units crc fs ≡ each (unit crc) fs
unfolding units each
units-each crc [] = refl
units-each crc (f ∷ fs) = ap (join (unit crc f)) (units-each crc fs)

module _ (known : Name → Name → Bool) where
  abbrev r : Reader
  r = dsdiff known

  unit_shaped : (crc : Bool) (f : Frame) → Shaped r (ascii "DST ") (unit crc f)
  unfolding unit inner same
  unit_shaped crc f = (refl, refl, shaped_if r (ascii "DST ") crc (leaf (ascii "DSTC") (be 4 (crc_of f.content)) stop) (refl, refl, tt))

  sound_shaped : (s : Sound) (crc : Bool) (fs : List Frame) → Shaped r (ascii "FRM8") (sound_chunk s crc fs)
  unfolding sound_chunk dst inner same
  sound_shaped Dsd crc fs = (refl, refl, tt)
  sound_shaped Dst crc fs = (refl, refl, (refl, refl, rw (units-each crc fs) (shaped_each r (ascii "DST ") (unit crc) (unit_shaped crc) fs)), tt)

  local_shaped : (p : Parts) (base : ℕ) (fs : List Frame) (c : LocalChunk) → Shaped r (ascii "FRM8") (local_chunk p base fs c)
  unfolding local_chunk comt_chunk inner same
  local_shaped p base fs Property = property_shaped known p.property_order (properties p)
  local_shaped p base fs SoundData = sound_shaped p.area.sound p.options.dst_crc fs
  local_shaped p base fs DstIndex = shaped_if r (ascii "FRM8") (has_index p) (leaf (ascii "DSTI") (index_of p base) stop) (refl, refl, tt)
  local_shaped p base fs EditedMasterInfo = diin_shaped known p.pool p.raw p.tracks p.markers (info p) p.info_order
  local_shaped p base fs Comments =
      let cs = written_comments p.pool p.comments (info p).text in
      shaped_if r (ascii "FRM8") (has_comt cs) (leaf (ascii "COMT") (comt_data cs) stop) (refl, refl, tt)

  caller_shaped : (raw row : List ℕ) → Free row → Shaped r (ascii "FRM8") (caller_chunk raw row)
  unfolding caller_chunk
  caller_shaped raw row free = (length-be 4 (get_or row 0 0), free_inner (be 4 (get_or row 0 0)) free, tt)

module _ (x : Inputs) (ok : verdict x ≡ Ok tt) (known : Name → Name → Bool) (fs : List Frame) where
  pub file_shaped : Shaped (dsdiff known) [] (file_of x fs)
  unfolding file_of form_chunks caller_chunks inner same
  file_shaped =
      let locals = each (local_chunk (parts x) (place x) fs) (given x) in
      let callers = each (caller_chunk x.raw) (rows 3 x.callers) in
      let inside =
      shaped_join (dsdiff known) (ascii "FRM8") locals callers
      (shaped_each (dsdiff known) (ascii "FRM8") (local_chunk (parts x) (place x) fs) (local_shaped known (parts x) (place x) fs) (given x))
      (shaped_all (dsdiff known) (ascii "FRM8") (caller_chunk x.raw) (rows 3 x.callers)
      (follows Free _ (caller_shaped known x.raw) (rows 3 x.callers) (callers_free x ok))) in
      (refl, refl, (refl, refl, inside), tt)
