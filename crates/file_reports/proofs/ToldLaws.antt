-- WHAT A READER REPORTS of the tree of an accepted build's file is what it is to be told: every chunk's value. Assumes nothing.
use mathlib.Core.Path.{◌≡◌, refl}
use mathlib.Core.Bool.{Bool}
use mathlib.Core.List.{List, []}
use Prim.Native.Nat.{ℕ, ◌^◌}
use native.Mathlib.Omega.{arith}
use lib.ListN.{get_or}
use Rattle.chunk.specs.Number.{be}
use Rattle.chunk_names.specs.Name.{Name, ascii, same}
use Rattle.chunk.specs.Rows.{rows}
use Rattle.tree.specs.Reader.{reports}
use Rattle.tree.specs.Value.{value, dsdiff}
use Rattle.chunk_names.specs.declared.LocalChunk.{LocalChunk}
use Rattle.chunk_names.specs.declared.LocalChunk.TheVariants.{Property, SoundData, DstIndex, EditedMasterInfo, Comments}
use Rattle.comt.specs.Comment.{written_comments, has_comt, comt_chunk}
use Rattle.comt.proofs.CommentLaws.{comments_fit, comt-count}
use Rattle.comt.proofs.ValueLaws.{comt-plain}
use Rattle.dst.specs.Frame.{Frame}
use Rattle.dst.specs.Unit.{unit}
use Rattle.dst.specs.Head.{dst}
use Rattle.prop_fields.specs.declared.compression.Sound.{Sound}
use Rattle.prop_fields.specs.declared.compression.Sound.TheVariants.{Dsd, Dst}
use Rattle.prop.specs.Property.{property, property_chunk}
use Rattle.master_info.specs.Diin.{has_diin, diin}
use Rattle.std.specs.Prelude.{Ok}
use Rattle.caller_chunks.specs.Caller.{caller_chunk, caller_chunks}
use Rattle.build_options.specs.Inputs.{Inputs}
use Rattle.checks.specs.InputVerdict.{verdict}
use Rattle.checks.proofs.AcceptedLaws as accepted
use Rattle.checks.proofs.DiinBelowLaws.{limited}
use Rattle.file_tree.specs.Parts.{parts, properties, info, has_index}
use Rattle.file_tree.specs.Sound.{sound_chunk}
use Rattle.file_tree.specs.File.{given, place, local_chunk, form_chunks, file_of}
use Rattle.file_reports.specs.Values.{property_told, local_told, file_told, told}
use Rattle.file_reports.proofs.ReportLaws.{every, follows, Tells, stop_tells, leaf_tells, node_tells, join_tells, if-tells, each_tells}
use Rattle.file_reports.proofs.CallerNameLaws.{free_value, Free, callers_free}
use Rattle.file_reports.proofs.ShapeLaws.{units-each}
use Rattle.file_reports.proofs.PropertyLaws.{property_tells}
use Rattle.file_reports.proofs.InfoLaws.{info_tells}

module _ (known : Name → Name → Bool) where
  -- the frames' chunks have no pad in their data
  unit_tells : (crc : Bool) (f : Frame) → Tells known (ascii "DST ") (unit crc f) (unit crc f)
  unfolding unit value same
  unit_tells crc f = leaf_tells refl (if-tells crc (λ on. leaf_tells refl stop_tells))

  sound_tells : (s : Sound) (crc : Bool) (fs : List Frame) → Tells known (ascii "FRM8") (sound_chunk s crc fs) (sound_chunk s crc fs)
  unfolding sound_chunk dst value same
  sound_tells Dsd crc fs = leaf_tells refl stop_tells
  sound_tells Dst crc fs =
      let frames = each_tells (unit crc) (unit crc) fs (every _ (unit_tells crc) fs) in
      node_tells refl (leaf_tells refl (rw (units-each crc fs) frames)) stop_tells

  -- a caller's chunk has all its data
  caller_tells : (raw row : List ℕ) → Free row → Tells known (ascii "FRM8") (caller_chunk raw row) (caller_chunk raw row)
  unfolding caller_chunk
  caller_tells raw row free = leaf_tells (free_value (be 4 (get_or row 0 0)) free _) stop_tells

module _ (x : Inputs) (ok : verdict x ≡ Ok tt) (known : Name → Name → Bool) (fs : List Frame) where
  local_tells : (c : LocalChunk) → Tells known (ascii "FRM8") (local_chunk (parts x) (place x) fs c) (local_told (parts x) (place x) fs c)
  unfolding local_chunk local_told property diin comt_chunk value same
  local_tells Property =
      let p = properties (parts x) in
      node_tells refl (each_tells (property_chunk p) (property_told p) x.property_order (every _ (property_tells known p) x.property_order)) stop_tells
  local_tells SoundData = sound_tells known x.area.sound x.options.dst_crc fs
  local_tells DstIndex = if-tells (has_index (parts x)) (λ on. leaf_tells refl stop_tells)
  local_tells EditedMasterInfo =
      let i = info (parts x) in
      let chunks = info_tells known x.pool x.raw x.tracks x.markers i (limited x ok) in
      if-tells (has_diin x.pool x.raw x.tracks x.markers i x.info_order)
      (λ has. node_tells refl (each_tells _ _ x.info_order (every _ chunks x.info_order)) stop_tells)
  local_tells Comments =
      let text = (info (parts x)).text in
      let cs = written_comments x.pool x.comments text in
      let fits = comments_fit x.pool text (256 ^ 4) x.comments (λ k h. omega (arith, (accepted.comments_fit x ok).short k h)) in
      if-tells (has_comt cs) (λ has. leaf_tells (comt-plain cs (omega (arith, comt-count cs has)) fits) stop_tells)

  file_tells : Tells known [] (file_of x fs) (file_told x fs)
  unfolding file_of form_chunks file_told caller_chunks value same
  file_tells =
      let locals = each_tells _ _ (given x) (every _ local_tells (given x)) in
      let callers = each_tells _ _ (rows 3 x.callers) (follows Free _ (caller_tells known x.raw) (rows 3 x.callers) (callers_free x ok)) in
      node_tells refl (leaf_tells refl (join_tells locals callers)) stop_tells

  pub file-told : reports (dsdiff known) [] (file_of x fs) ≡ told known x fs
  file-told = file_tells.reported
