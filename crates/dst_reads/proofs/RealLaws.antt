-- THE READ OF A REAL FILE, DST. A read's contract speaks of the file with zeros for what is not lent. Where what is lent are the needed frames of a
-- real file, it is accepted, and what it shows is the real file's. Assumes nothing.
use mathlib.Core.Path.{◌≡◌, refl, ap, ◌∙◌}
use mathlib.Core.Bool.{Bool, true, false}
use mathlib.Core.List.{List, [], ◌∷◌, flat_map}
use Prim.Native.Nat.{ℕ, zero, suc, ◌-◌, ◌*◌}
use native.Mathlib.Nat.{mul-zero, zero-mul, mul-suc, add_comm}
use borrow.Author.Tests.{eq-eqb}
use Rattle.std.specs.Prelude.{Option}
use lib.ListN.{length, take, drop, length-append}
use lib.Seq.{take_at, drop_at}
use Rattle.window.specs.declared.window.Window.{Window}
use Rattle.sound_reads.specs.declared.place.Positions.{Positions}
use Rattle.dst.specs.Frame.{Frame, frame_bytes, plain_bytes}
use Rattle.dst.specs.Unit.{unit_bytes, sound, lengths, sizes}
use Rattle.dst.specs.Start.{sum}
use Rattle.sound_reads.specs.Positions.{between}
use Rattle.sound_reads.specs.Fill.{Filling}
use Rattle.sound_reads.specs.Lent.{needed_at, is_lent, lent_frames, frames_with, codes, contents, Even, Plain}
use Rattle.sound_reads.proofs.SameLaws.{same_refl}
use Rattle.dst.proofs.UnitLaws.{unit-plain, sizes_of}
use Rattle.sound_reads.proofs.LentLaws.{lent_real}
use Rattle.sound_reads.proofs.PartLaws.{map_slice, part_real}
use Rattle.dst_reads.proofs.FillLaws.{units-touched, sizes-with, between-with}

even-take : (n k : ℕ) (fs : List Frame) → Even n fs → Even n (take k fs)
even-take n zero fs e = tt
even-take n (suc k) [] e = tt
even-take n (suc k) (f ∷ fs) e = (e.0, even-take n k fs e.1)

even-drop : (n k : ℕ) (fs : List Frame) → Even n fs → Even n (drop k fs)
even-drop n zero fs e = e
even-drop n (suc k) [] e = tt
even-drop n (suc k) (f ∷ fs) e = even-drop n k fs e.1

sum_codes : (fs : List Frame) → sum (lengths fs) ≡ length (codes fs)
unfolding sum flat_map
sum_codes [] = refl
sum_codes (f ∷ fs) = rw (length-append, sum_codes fs)

length-contents : (n : ℕ) (fs : List Frame) → Even n fs → n * length fs ≡ length (flat_map (λ (f : Frame). f.content) fs)
unfolding flat_map
length-contents n [] e = mul-zero n
length-contents n (f ∷ fs) e = rw (length-append, e.0, ← length-contents n fs e.1, mul-suc) (add_comm (n * length fs) n)

length-lengths : (fs : List Frame) → length (lengths fs) ≡ length fs
length-lengths [] = refl
length-lengths (f ∷ fs) = ap suc (length-lengths fs)

-- what frames lend has the lengths that it should
lent-given : (crc : Bool) (channels : ℕ) (fs : List Frame) → Plain crc channels fs
    → is_lent (plain_bytes crc channels) (lengths fs) (lengths fs) (codes fs) (contents crc fs) ≡ true
unfolding is_lent plain_bytes
lent-given true channels fs e =
    rw (same_refl (lengths fs), eq-eqb (sum (lengths fs)) (length (codes fs)) (sum_codes fs), length-lengths fs)
    (eq-eqb (frame_bytes channels * length fs) (length (flat_map (λ (f : Frame). f.content) fs)) (length-contents (frame_bytes channels) fs e))
lent-given false channels fs e =
    rw (same_refl (lengths fs), eq-eqb (sum (lengths fs)) (length (codes fs)) (sum_codes fs)) (eq-eqb (0 * length (lengths fs)) 0 (zero-mul (length (lengths fs))))

-- and is cut to their units
plain-lent : (fs : List Frame) → sound false (lent_frames 0 (lengths fs) (codes fs) []) ≡ sound false fs
unfolding sound flat_map lent_frames
plain-lent [] = refl
plain-lent (f ∷ fs) =
    rw (
      take_at f.code (flat_map (λ (g : Frame). g.code) fs) (length f.code) refl,
      drop_at f.code (flat_map (λ (g : Frame). g.code) fs) (length f.code) refl,
      plain-lent fs,
      unit-plain f,
      unit-plain (record { code = f.code; content = [] }),
    )

lent-sound : (crc : Bool) (channels : ℕ) (fs : List Frame) → Plain crc channels fs
    → sound crc (lent_frames (plain_bytes crc channels) (lengths fs) (codes fs) (contents crc fs)) ≡ sound crc fs
unfolding plain_bytes
lent-sound true channels fs e = ap (sound true) (lent_real (frame_bytes channels) fs e)
lent-sound false channels fs e = plain-lent fs

plain-between : (crc : Bool) (channels : ℕ) (fs : List Frame) (p : Positions) → Plain crc channels fs → Plain crc channels (between p fs)
plain-between true channels fs p e = even-drop (frame_bytes channels) p.first (take p.end fs) (even-take (frame_bytes channels) p.end fs e)
plain-between false channels fs p e = tt

-- DST: the needed frames of the file are lent
module _ (crc : Bool) (channels : ℕ) (fs : List Frame) (plain : Plain crc channels fs) (w : Window) (out : List ℕ) where
  abbrev needs : Positions
  needs = needed_at (sizes crc (lengths fs)) w out

  abbrev some : List Frame
  some = between needs fs

  lengths_some : lengths some ≡ between needs (lengths fs)
  lengths_some = map_slice (λ (f : Frame). length f.code) needs.first needs.end fs

  plain-some : Plain crc channels some
  plain-some = plain-between crc channels fs needs plain

  -- what is lent has the lengths that it should
  pub given : is_lent (plain_bytes crc channels) (between needs (lengths fs)) (lengths some) (codes some) (contents crc some) ≡ true
  given = rw (← lengths_some) (lent-given crc channels some plain-some)

  -- what a read shows of the sound that has the needed frames is what it shows of the file's
  pub same-sound : {last : List ℕ} {r : Option Window}
      → Filling true (sound crc (frames_with (plain_bytes crc channels) needs (lengths fs) (codes some) (contents crc some))) w out last r
      → Filling true (sound crc fs) w out last r
  unfolding sound
  same-sound q =
      let n = plain_bytes crc channels in
      let ls = lengths fs in
      part_real (unit_bytes crc) (frames_with n needs ls (codes some) (contents crc some)) fs (sizes crc ls)
      (sizes-with crc ls n (lengths some) (codes some) (contents crc some) w out given)
      (sizes_of crc fs) w out (units-touched crc ls w.skip (length out - w.at))
      (ap (flat_map (unit_bytes crc)) (between-with crc ls n (lengths some) (codes some) (contents crc some) w out given) ∙ lent-sound crc channels some plain-some)
      q

  -- what `dst_data::fill` promises of those frames is a read of the file
  pub read_real : {last : List ℕ} {r : Option Window}
      → Filling (is_lent (plain_bytes crc channels) (between needs (lengths fs)) (lengths some) (codes some) (contents crc some))
      (sound crc (frames_with (plain_bytes crc channels) needs (lengths fs) (codes some) (contents crc some))) w out last r
      → Filling true (sound crc fs) w out last r
  read_real q = same-sound (rw given at q)
