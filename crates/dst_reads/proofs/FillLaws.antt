-- A read of DST sound: the units of the frames that are lent, one after the other. Assumes nothing.
use mathlib.Core.Path.{◌≡◌, refl, sym, ap, ◌∙◌}
use mathlib.Core.Logic.{◌⊎◌, inl, inr, ⊎_elim}
use mathlib.Core.Bool.{Bool, true, cond}
use mathlib.Core.List.{List, ◌++◌, map}
use Prim.Native.Nat.{ℕ, suc, ◌+◌, ◌-◌, ◌*◌, ◌≤◌, ◌<◌}
use native.Mathlib.Numerals.{add-one}
use native.Mathlib.Omega.{arith}
use lib.Dec.{ltb}
use Rattle.std.specs.Prelude.{Some}
use lib.ListN.{length, take, drop, get_or, length-map, take-append-drop}
use Rattle.chunk.specs.Number.{be}
use Rattle.chunk_names.specs.Name.{ascii}
use Rattle.chunk.specs.Chunk.{chunk, occupied}
use Rattle.chunk.proofs.NumberLaws.{length-be}
use Rattle.chunk.proofs.ChunkLaws.{length-chunk}
use Rattle.chunk.proofs.ListLaws.{flat_map-append, flat_map-one}
use Rattle.window.specs.declared.window.Window.{Window}
use Rattle.dst.specs.Frame.{Frame}
use Rattle.sound_reads.specs.declared.place.Positions.{Positions}
use Rattle.dst.specs.Unit.{unit_bytes, sound, unit_size, sizes}
use Rattle.dst.specs.Start.{sum}
use Rattle.sound_reads.specs.Place.{place_of}
use Rattle.sound_reads.specs.Positions.{positions_for, between}
use Rattle.window.specs.Window.{Wrote}
use Rattle.sound_reads.specs.Fill.{Filling}
use Rattle.sound_reads.specs.Lent.{needed_at, is_lent, lent_frames, frames_with}
use Rattle.dst.proofs.StartLaws.{sum-append, sum-suc, size-at}
use Rattle.sound_reads.proofs.LentLaws.{lent-lengths, lent-suc, with-codes, with-between}
use Rattle.dst.proofs.UnitLaws.{sizes_of}
use Rattle.sound_reads.proofs.PositionsLaws.{Nothing, Something, touching, positions_known}
use Rattle.dst_reads.proofs.WalkLaws.{unit-sized}
use Rattle.window.proofs.WindowLaws.{◌then◌, unseen}
use Rattle.sound_reads.proofs.PartLaws.{part_filled}

-- a frame's bytes lie within those that are lent
pub code-within : (ls : List ℕ) (k : ℕ) → k < length ls → sum (take k ls) + get_or ls k 0 ≤ sum ls
code-within ls k h =
    let s = sum-suc ls k h in
    let e : sum ls ≡ sum (take (suc k) ls) + sum (drop (suc k) ls) = ap sum (sym (take-append-drop (suc k) ls)) ∙ sum-append (take (suc k) ls) (drop (suc k) ls) in
    omega arith

-- one frame more
sound-suc : (crc : Bool) (n : ℕ) (ls frames contents : List ℕ) (k : ℕ) → k < length ls
    → sound crc (lent_frames n (take (suc k) ls) frames contents)
    ≡ sound crc (lent_frames n (take k ls) frames contents)
    ++ unit_bytes crc (record { code = take (get_or ls k 0) (drop (sum (take k ls)) frames); content = take n (drop (n * k) contents) })
unfolding sound
sound-suc crc n ls frames contents k h =
    rw (lent-suc n ls frames contents k h, flat_map-append, flat_map-one) refl

-- the unit of frame k
pub next-unit : (crc : Bool) (n : ℕ) (ls frames contents : List ℕ) {k : ℕ} {w v u : Window} {out mid last : List ℕ} → k < length ls
    → Wrote (sound crc (lent_frames n (take k ls) frames contents)) w out mid v
    → Wrote (unit_bytes crc (record { code = take (get_or ls k 0) (drop (sum (take k ls)) frames); content = take n (drop (n * k) contents) })) v mid last u
    → Wrote (sound crc (lent_frames n (take (k + 1) ls) frames contents)) w out last u
next-unit crc n ls frames contents {k} h p q = rw (add-one, sound-suc crc n ls frames contents k h) (p then q)

-- what a DSTC chunk occupies
pub length_dstc : (x : ℕ) → length (chunk (ascii "DSTC") (be 4 x)) ≡ 16
unfolding occupied
length_dstc x = length-chunk (ascii "DSTC") (be 4 x) refl ∙ rw (length-be 4 x)

-- no byte of it is wanted
pub dstc-unseen : (x : ℕ) (w : Window) (out : List ℕ) → (length out ≤ w.at) ⊎ (16 ≤ w.skip)
    → Wrote (chunk (ascii "DSTC") (be 4 x)) w out out (record { at = w.at; skip = w.skip - 16 })
dstc-unseen x w out h =
    let e = length_dstc x in
    rw e at (unseen (chunk (ascii "DSTC") (be 4 x)) w out (⊎_elim inr (λ s. inl (omega arith)) h))

-- what is needed of the sound
module _ (crc : Bool) (ls : List ℕ) where
  units-sized : (i : ℕ) → i < length (sizes crc ls) → 0 < get_or (sizes crc ls) i 0
  units-sized i h =
      let n = length-map ls (unit_size crc) in
      let k : i < length ls = omega arith in
      rw (size-at (unit_size crc) ls i k) (unit-sized crc (get_or ls i 0))

  pub units-touched : (from count : ℕ) → Nothing (sizes crc ls) from count ⊎ Something (sizes crc ls) from count
  units-touched from count = touching (sizes crc ls) from count units-sized

  pub needed-known : (from count : ℕ) → ((positions_for (sizes crc ls) from count).first ≤ (positions_for (sizes crc ls) from count).end)
      × ((positions_for (sizes crc ls) from count).end ≤ length ls)
  needed-known from count =
      let k = positions_known (sizes crc ls) from count (units-touched from count) in
      let n = length-map ls (unit_size crc) in
      (k.0, omega (arith, k.1))

  -- the sound of the file with zeros for what is not lent
  module _ (n : ℕ) (lent frames contents : List ℕ) (w : Window) (out : List ℕ) where
    abbrev pub wanted : Positions
    wanted = needed_at (sizes crc ls) w out

    module _ (given : is_lent n (between wanted ls) lent frames contents ≡ true) where
      pub sizes-with : map (λ (f : Frame). length (unit_bytes crc f)) (frames_with n wanted ls frames contents) ≡ sizes crc ls
      sizes-with =
          let k = needed-known w.skip (length out - w.at) in
          let l = lent-lengths n (between wanted ls) lent frames contents given in
          sizes_of crc (frames_with n wanted ls frames contents) ∙ ap (sizes crc) (with-codes n wanted ls frames contents l.1.0 k.0)

      pub between-with : between wanted (frames_with n wanted ls frames contents) ≡ lent_frames n lent frames contents
      between-with =
          let k = needed-known w.skip (length out - w.at) in
          let l = lent-lengths n (between wanted ls) lent frames contents given in
          with-between n wanted ls frames contents k.0 k.1 ∙ ap (λ (x : List ℕ). lent_frames n x frames contents) (sym l.0)

      pub filled-lent : {last : List ℕ} {v : Window}
          → Wrote (sound crc (lent_frames n lent frames contents)) (record { at = w.at; skip = (place_of (sizes crc ls) w.skip).within }) out last v
          → Filling true (sound crc (frames_with n wanted ls frames contents)) w out last
          (Some (record { at = v.at; skip = cond (ltb (place_of (sizes crc ls) w.skip).position (length ls)) 0 (place_of (sizes crc ls) w.skip).within }))
      unfolding sound
      filled-lent {last} {v} q =
          part_filled (unit_bytes crc) (frames_with n wanted ls frames contents) (sizes crc ls) sizes-with w out (units-touched w.skip (length out - w.at)) {last = last} {v = v} (length ls) (length-map ls (unit_size crc))
          (rw between-with q)
