-- The index of an accepted DST build: how many bytes it has, and each entry's own place and length. Assumes nothing.
use mathlib.Core.Path.{◌≡◌, refl, sym, ap, subst, ◌∙◌}
use mathlib.Core.List.{List, [], ◌∷◌}
use Prim.Native.Nat.{ℕ, zero, suc, ◌+◌, ◌*◌, ◌^◌, ◌≤◌, ◌<◌}
use native.Mathlib.Nat.{not-suc-le-zero, le_of_suc-le-suc}
use native.Mathlib.Omega.{arith}
use lib.ListN.{length, get_or, length-map}
use Rattle.chunk.specs.Append.{moved}
use Rattle.dst.specs.Frame.{Frame}
use Rattle.dst.specs.Unit.{lengths, sizes}
use Rattle.dst.specs.Start.{start, sum}
use Rattle.dst.proofs.StartLaws.{start-add, start_all}
use Rattle.dst.proofs.SaturateLaws.{moved-fits}
use Rattle.dst_index.specs.Index.{shift_of}
use Rattle.dst_index.specs.declared.index.DstIndexOffset.{DstIndexOffset}
use Rattle.dst_index.specs.declared.index.DstIndexOffset.TheVariants.{ChunkHeader, FrameData}
use Rattle.dst_index.proofs.IndexLaws.{entry_at, entry_length_lem, length-index}
use Rattle.prop_fields.specs.declared.compression.Sound.{Sound}
use Rattle.prop_fields.specs.declared.compression.Sound.TheVariants.{Dst}
use Rattle.refusal.specs.Verdict.{Verdict}
use Rattle.std.specs.Prelude.{Ok, Err}
use Rattle.refusal.proofs.VerdictLaws.{none_so, inside}
use Rattle.rows.specs.Lengths.{length_wrong, lengths_wrong}
use Rattle.build_answer.specs.declared.answer.Built.{Built}
use Rattle.assemble.specs.Build.{build_verdict, Outcome, Builds}
use Rattle.build_options.specs.Inputs.{Inputs}
use Rattle.checks.specs.InputVerdict.{verdict}
use Rattle.checks.proofs.AcceptedLaws.{lengths-right}
use Rattle.file_tree.specs.Sound.{Fits, sound_size}
use Rattle.file_tree.specs.Parts.{parts, index_of}
use Rattle.file_tree.specs.File.{place, sound_length, header_of, trailer_of}
use Rattle.file_tree.proofs.FileLaws.{length-header}
use Rattle.accepted_file.proofs.SizeLaws.{sound-low, front_low}
use Rattle.dsdiff.proofs.WholeLaws.{made}
use Rattle.old_readers.specs.Premises.{AcceptedBuild, Recorded}
use Rattle.old_readers.specs.OldReaders.{entry_place, entry_length}

start-low : (ss : List ℕ) (i : ℕ) → start ss i ≤ sum ss
start-low ss i = omega (arith, start-add ss i (length ss), start_all ss (i + length ss) (omega arith))

shift_low : (o : DstIndexOffset) → shift_of o < 13
shift_low ChunkHeader = omega arith
shift_low FrameData = omega arith

-- a frame's length, among the lengths
length_at : (fs : List Frame) (i : ℕ) (unused : Frame) → i < length fs → get_or (lengths fs) i 0 ≡ length (get_or fs i unused).code
length_at [] i unused h = absurd (not-suc-le-zero h)
length_at (f ∷ fs) zero unused h = refl
length_at (f ∷ fs) (suc i) unused h = length_at fs i unused (le_of_suc-le-suc h)

-- the header's length that a build answers
header-length : (x : Inputs) (h t : List ℕ) {h' t' : List ℕ} {built : Built} → Builds x h h' t t' (Ok built) → built.header ≡ length (header_of x)
header-length x h t {h'} {t'} {built} outcome = by (build_verdict x h t) outcome
  where
    by : (v : Verdict) → Outcome x v h h' t t' (Ok built) → built.header ≡ length (header_of x)
    by (Ok tt) o =
        let same : built ≡ record { header = length (header_of x); sound = sound_length x; trailer = length (trailer_of x) } = cc o.answers in
        ap (λ (a : Built). a.header) same
    by (Err r) o = absurd (cc o.answers)

module _ (b : AcceptedBuild) (fs : List Frame) (recorded : Recorded b.inputs fs) (dst : b.inputs.area.sound ≡ Dst) where
  abbrev x : Inputs
  x = b.inputs

  ok : verdict x ≡ Ok tt
  ok = (made x b.header_before b.trailer_before b.promise refl).ok

  same : lengths fs ≡ x.lengths
  same = subst (λ (s : Sound). Fits s x.area x.lengths fs) dst recorded.fits

  count : length x.lengths ≡ length fs
  count = sym (ap length same) ∙ length-map fs (λ (f : Frame). length f.code)

  -- what the file's tree has for it
  abbrev pub index : List ℕ
  index = index_of (parts x) (place x)

  pub many : length index ≡ 12 * length fs
  many = length-index x.options.dst_crc _ x.lengths ∙ ap (λ (n : ℕ). 12 * n) count

  at_place : (i : ℕ) → i < length fs → entry_place x.options.dst_index_offset index i ≡ place x + start (sizes x.options.dst_crc (lengths fs)) i
  unfolding place sound_size
  at_place i h =
      let crc = x.options.dst_crc in
      let o = x.options.dst_index_offset in
      let sized = b.promise.orders in
      let late : start (sizes crc x.lengths) i ≤ sum (sizes crc x.lengths) = start-low (sizes crc x.lengths) i in
      let sum_low : sum (sizes crc x.lengths) < 2 ^ 40 = subst (λ (s : Sound). sound_size s x.area crc x.lengths < 2 ^ 40) dst (sound-low x ok sized) in
      let low = front_low x ok sized 0 in
      let begin : moved (place x) (shift_of o) ≡ place x + shift_of o = moved-fits (place x) (shift_of o) (omega (arith, shift_low o, low)) in
      let e = entry_at crc (place x + shift_of o) x.lengths i (omega (arith, count, h)) (omega (arith, shift_low o, late, sum_low, low)) in
      rw (begin, e, same) (omega arith)

  pub own : (i : ℕ) → i < length fs → entry_place x.options.dst_index_offset index i ≡ b.header_length + start (sizes x.options.dst_crc (lengths fs)) i
  own i h =
      at_place i h
      ∙ ap (λ (n : ℕ). n + start (sizes x.options.dst_crc (lengths fs)) i) (sym (header-length x b.header_before b.trailer_before b.promise ∙ length-header x))

  -- 10
  short : (i : ℕ) → i < length x.lengths → get_or x.lengths i 0 ≤ 65_536
  unfolding lengths_wrong
  short i h =
      (inside 1 65_536 (get_or x.lengths i 0) (none_so (λ k. length_wrong (get_or x.lengths k 0)) (length x.lengths) (lengths-right x ok) i h)).1

  pub long : (i : ℕ) (unused : Frame) → i < length fs → entry_length index i ≡ length (get_or fs i unused).code
  unfolding place
  long i unused h =
      let crc = x.options.dst_crc in
      let o = x.options.dst_index_offset in
      let low = front_low x ok b.promise.orders 0 in
      let begin : moved (place x) (shift_of o) ≡ place x + shift_of o = moved-fits (place x) (shift_of o) (omega (arith, shift_low o, low)) in
      let here : i < length x.lengths = omega (arith, count, h) in
      let e = entry_length_lem crc (place x + shift_of o) x.lengths i (omega (arith, shift_low o, low)) here (omega (arith, short i here)) in
      rw (begin, e, ← same) (length_at fs i unused h)
