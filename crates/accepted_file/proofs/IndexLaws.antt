-- THE INDEX of a DST build: entry i, less 12 under `FrameData`, is the place of frame i's DSTF in the file's bytes, wherever the index stands. Assumes nothing.
use mathlib.Core.Path.{◌≡◌, sym, ap, subst, ◌∙◌}
use mathlib.Core.List.{List, ◌++◌}
use Prim.Native.Nat.{ℕ, ◌+◌, ◌-◌, ◌*◌, ◌^◌, ◌≤◌, ◌<◌}
use native.Mathlib.Omega.{arith}
use lib.ListN.{length, take, drop, get_or}
use Rattle.chunk.specs.Number.{num}
use Rattle.chunk_names.specs.Name.{ascii}
use Rattle.chunk.specs.Chunk.{chunk}
use Rattle.tree.specs.Tree.{bytes}
use Rattle.dst.specs.Frame.{Frame}
use Rattle.dst.specs.Unit.{sizes, lengths, sound}
use Rattle.dst.specs.Start.{sum, start}
use Rattle.dst_index.specs.Index.{shift_of, Stands}
use Rattle.dst_index.specs.declared.index.DstIndexOffset.{DstIndexOffset}
use Rattle.dst_index.specs.declared.index.DstIndexOffset.TheVariants.{ChunkHeader, FrameData}
use Rattle.dst.proofs.StartLaws.{start-add, start_all}
use Rattle.dst_index.proofs.IndexLaws.{entry-leads}
use Rattle.prop_fields.specs.declared.compression.Sound.{Sound}
use Rattle.prop_fields.specs.declared.compression.Sound.TheVariants.{Dst}
use Rattle.std.specs.Prelude.{Ok}
use Rattle.build_options.specs.Inputs.{Inputs}
use Rattle.checks.specs.InputVerdict.{verdict}
use Rattle.file_tree.specs.Parts.{parts, index_of}
use Rattle.file_tree.specs.Sound.{Fits, sound_bytes, sound_size}
use Rattle.file_tree.specs.File.{place, header_of, trailer_of, file_of, Ordered}
use Rattle.file_tree.proofs.FileLaws.{length-header}
use Rattle.accepted_file.proofs.SizeLaws.{sound-low, front_low}
use Rattle.accepted_file.proofs.AcceptedLaws.{accepted-file}

-- a unit starts no later than the sound ends
start-low : (ss : List ℕ) (i : ℕ) → start ss i ≤ sum ss
start-low ss i = omega (arith, start-add ss i (length ss), start_all ss (i + length ss) (omega arith))

shift_low : (o : DstIndexOffset) → shift_of o < 13
shift_low ChunkHeader = omega arith
shift_low FrameData = omega arith

module _ (x : Inputs) (ok : verdict x ≡ Ok tt) (sized : Ordered x) (dst : x.area.sound ≡ Dst) (fs : List Frame) (same : lengths fs ≡ x.lengths) where
  fits : Fits x.area.sound x.area x.lengths fs
  fits = subst (λ (s : Sound). Fits s x.area x.lengths fs) (sym dst) same

  -- the file of a DST build
  whole : header_of x ++ sound x.options.dst_crc fs ++ trailer_of x ≡ bytes (file_of x fs)
  unfolding sound_bytes
  whole =
      ap (λ (s : Sound). header_of x ++ sound_bytes s x.options.dst_crc fs ++ trailer_of x) (sym dst)
      ∙ accepted-file x ok sized fs fits

  pub index-leads : (i : ℕ) (d : Frame) → i < length fs
      → Stands (bytes (file_of x fs)) (num (take 8 (drop (12 * i) (index_of (parts x) (place x)))) - shift_of x.options.dst_index_offset)
      (chunk (ascii "DSTF") (get_or fs i d).code)
  unfolding place sound_size
  index-leads i d h =
      let crc = x.options.dst_crc in
      let o = x.options.dst_index_offset in
      let late : start (sizes crc (lengths fs)) i ≤ sum (sizes crc x.lengths) = rw same (start-low (sizes crc x.lengths) i) in
      let sum_low : sum (sizes crc x.lengths) < 2 ^ 40 = subst (λ (s : Sound). sound_size s x.area crc x.lengths < 2 ^ 40) dst (sound-low x ok sized) in
      let leads = entry-leads crc (header_of x) fs (trailer_of x) o i d h (omega (arith, length-header x, shift_low o, late, sum_low, front_low x ok sized 0)) in
      rw (length-header x, same, whole) at leads
