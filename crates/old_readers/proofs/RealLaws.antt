-- THE REAL FILE: an accepted read that was given what a build was given and made, and lent the needed frames, filled the window of the build's file. Assumes nothing.
use mathlib.Core.Path.{◌≡◌, refl, sym, ap, ◌∙◌}
use mathlib.Core.Bool.{true}
use mathlib.Core.List.{List, ◌++◌, append_assoc}
use Prim.Native.Nat.{ℕ, ◌-◌, min}
use native.Mathlib.Omega.{arith}
use lib.ListN.{length}
use Rattle.window.specs.declared.window.Window.{Window}
use Rattle.window.specs.Window.{shown, after, Wrote}
use Rattle.window.proofs.WindowLaws.{◌then◌, before}
use Rattle.dst.specs.Frame.{Frame, frame_bytes, plain_bytes, dsd_sound}
use Rattle.dst.specs.Unit.{sound, lengths}
use Rattle.prop_fields.specs.declared.compression.Sound.{Sound}
use Rattle.prop_fields.specs.declared.compression.Sound.TheVariants.{Dsd, Dst}
use Rattle.std.specs.Prelude.{Option, Some}
use Rattle.sound_reads.specs.Positions.{between}
use Rattle.sound_reads.specs.Fill.{Filling}
use Rattle.sound_reads.specs.Lent.{frames_with, contents_with, codes, contents}
use Rattle.dst_reads.proofs.RealLaws.{same-sound}
use Rattle.dsd_reads.proofs.RealLaws.{same-sound-dsd}
use Rattle.build_options.specs.Inputs.{Inputs}
use Rattle.file_tree.specs.Sound.{sound_bytes}
use Rattle.file_read.specs.Lent.{sound_with}
use Rattle.file_read.specs.Read.{Request, needed_for, file_with}
use Rattle.file_read.proofs.PieceLaws.{begin, behind}
use Rattle.old_readers.specs.Premises.{AcceptedBuild, Recorded, WasGiven}
use Rattle.old_readers.specs.OldReaders.{file_bytes}
use Rattle.old_readers.proofs.KnownLaws.{DstRead, DsdRead, contents_of, ReadOf, dst_needs, dst-needs, dsd_needs, dsd-needs, read_of}

-- two files of one header and one trailer, of whose sounds a read shows the same
pub record Same (f g : List ℕ) (offset : ℕ) (out : List ℕ) : Type 0 where
  pub shows : shown f (record { at = 0; skip = offset }) out ≡ shown g (record { at = 0; skip = offset }) out
  pub count : min (length out) (length f - offset) ≡ min (length out) (length g - offset)

-- the place after bytes from the front on tells how many were filled
count-is : (n len offset : ℕ) → (after n len (record { at = 0; skip = offset })).at ≡ min len (n - offset)
unfolding after
count-is n len offset = omega arith

module _ (q : Request) (out : List ℕ) where
  -- the place behind the sound s, and the buffer with it
  abbrev SoundShown : List ℕ → List ℕ → Option Window → Type 0
  SoundShown s last r = Filling true s (behind q out) out last r

  same_files : (s t : List ℕ) → ((last : List ℕ) (r : Option Window) → SoundShown s last r → SoundShown t last r)
      → Same (q.header ++ s ++ q.trailer) (q.header ++ t ++ q.trailer) q.offset out
  same_files s t e =
      let w = behind q out in
      let mid = shown s w out in
      let v = after (length s) (length out) w in
      let f = e mid (Some v) (record { answer = refl; buffer = refl }) in
      let late = shown q.trailer v mid in
      let u = after (length q.trailer) (length mid) v in
      let last = shown q.header (begin q out) late in
      let trailer : Wrote q.trailer v mid late u = record { filled = refl; place = refl } in
      let header : Wrote q.header (begin q out) late last _ = record { filled = refl; place = refl } in
      let one : Wrote (q.header ++ s ++ q.trailer) (begin q out) out last u =
      rw (append_assoc q.header s q.trailer) (before refl (record { filled = refl; place = refl } then trailer) header) in
      let wrote : Wrote t w out mid v = record { filled = f.buffer; place = cc f.answer } in
      let two : Wrote (q.header ++ t ++ q.trailer) (begin q out) out last u =
      rw (append_assoc q.header t q.trailer) (before refl (wrote then trailer) header) in
      record {
        shows = sym one.filled ∙ two.filled;
        count =
            sym (count-is (length (q.header ++ s ++ q.trailer)) (length out) q.offset)
            ∙ ap (λ (x : Window). x.at) (sym one.place ∙ two.place)
            ∙ count-is (length (q.header ++ t ++ q.trailer)) (length out) q.offset;
      }

  -- the sound that the read knows of
  abbrev known_sound : List ℕ
  known_sound = sound_with q.format q.lengths (needed_for q (length out)) q.frames q.contents

  -- DST: the sound with the lent frames shows what the sound of all frames shows
  dst-sound : (fs : List Frame) → DstRead fs q (length out) → (last : List ℕ) (r : Option Window) → SoundShown known_sound last r
      → SoundShown (sound q.format.crc fs) last r
  dst-sound fs known last r p =
      let crc = q.format.crc in
      let needs = dst_needs q out fs in
      let n = plain_bytes crc q.format.channels in
      let given : known_sound ≡ sound crc (frames_with n needs (lengths fs) (codes (between needs fs)) (contents crc (between needs fs))) =
      rw (known.lent.0, known.lent.1, dst-needs q out fs known, known.kind, known.told) in
      same-sound crc q.format.channels fs known.plain (behind q out) out (rw given at p)

  -- DSD: the same of the contents
  dsd-sound : (xs : List (List ℕ)) → DsdRead xs q (length out) → (last : List ℕ) (r : Option Window) → SoundShown known_sound last r
      → SoundShown (dsd_sound xs) last r
  dsd-sound xs known last r p =
      let needs = dsd_needs q out xs in
      let given : known_sound ≡ dsd_sound (contents_with (frame_bytes q.format.channels) needs (length xs) (dsd_sound (between needs xs))) =
      rw (known.lent, dsd-needs q out xs known, known.kind, known.told) in
      same-sound-dsd q.format.channels xs known.even (behind q out) out (rw given at p)

  -- of either kind
  sound-same : (s : Sound) (fs : List Frame) → ReadOf s fs q (length out) → (last : List ℕ) (r : Option Window) → SoundShown known_sound last r
      → SoundShown (sound_bytes s q.format.crc fs) last r
  unfolding sound_bytes
  sound-same Dst fs known = dst-sound fs known
  sound-same Dsd fs known = dsd-sound (contents_of fs) known

-- a read of a build's file
module _ (b : AcceptedBuild) (fs : List Frame) (recorded : Recorded b.inputs fs) (q : Request) (out : List ℕ) (given : WasGiven b fs q (length out)) where
  abbrev x : Inputs
  x = b.inputs

  -- the file that the read knows of shows what the build's file shows
  pub same-file : Same (file_with q (length out)) (file_bytes b fs) q.offset out
  same-file =
      let s = sound_bytes x.area.sound q.format.crc fs in
      let file : q.header ++ s ++ q.trailer ≡ file_bytes b fs =
      rw (given.header, given.trailer, given.crc) in
      rw (← file)
      (same_files q out _ s (sound-same q out x.area.sound fs (read_of b fs recorded q (length out) given)))
