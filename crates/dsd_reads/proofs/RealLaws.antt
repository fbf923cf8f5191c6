-- THE READ OF A REAL FILE, DSD. A read's contract speaks of the file with zeros for what is not lent. Where what is lent are the contents of the
-- needed positions of a real file, it is accepted, and what it shows is the real file's. Assumes nothing.
use mathlib.Core.Path.{◌≡◌, sym, ap, ◌∙◌}
use mathlib.Core.Bool.{true}
use mathlib.Core.List.{List, [], map}
use Prim.Native.Nat.{ℕ, zero, suc, ◌-◌, ◌*◌, ◌≤◌}
use native.Mathlib.Omega.{arith}
use borrow.Author.Tests.{eq-eqb}
use Rattle.std.specs.Prelude.{Option}
use lib.Dec.{eqb}
use lib.ListN.{length, drop, replicate}
use Rattle.window.specs.declared.window.Window.{Window}
use Rattle.sound_reads.specs.declared.place.Positions.{Positions}
use Rattle.dst.specs.Frame.{frame_bytes, dsd_sound}
use Rattle.dst.specs.Start.{sum}
use Rattle.sound_reads.specs.Positions.{between, number}
use Rattle.sound_reads.specs.Fill.{Filling}
use Rattle.sound_reads.specs.Lent.{needed_at, contents_with}
use Rattle.sound_reads.proofs.PartLaws.{map_slice, part_real, length-joined}
use Rattle.dsd_reads.proofs.DsdLaws.{sum-replicate, take-replicate, frames-touched, with-sizes, with_rows, rows-joined, wanted-known}

drop-replicate : (f n a : ℕ) → drop a (replicate n f) ≡ replicate (n - a) f
drop-replicate f n zero = let e : n ≡ n - 0 = omega arith in ap (λ (k : ℕ). replicate k f) e
drop-replicate f zero (suc a) = let e : 0 ≡ 0 - suc a = omega arith in ap (λ (k : ℕ). replicate k f) e
drop-replicate f (suc n) (suc a) = let e : suc n - suc a ≡ n - a = omega arith in rw e (drop-replicate f n a)

-- DSD: the contents of the needed positions are lent
module _ (channels : ℕ) (xs : List (List ℕ)) (even : map (λ (c : List ℕ). length c) xs ≡ replicate (length xs) (frame_bytes channels)) (w : Window)
    (out : List ℕ) where
  abbrev wants : Positions
  wants = needed_at (replicate (length xs) (frame_bytes channels)) w out

  wants-known : (wants.first ≤ wants.end) × (wants.end ≤ length xs)
  wants-known = wanted-known (frame_bytes channels) (length xs) [] w out

  -- what is lent has the length that it should
  pub lent-even : frame_bytes channels * number wants ≡ length (dsd_sound (between wants xs))
  unfolding dsd_sound
  lent-even =
      let f = frame_bytes channels in
      sym
      (length-joined (λ (c : List ℕ). c) (between wants xs)
      ∙ ap sum
      (map_slice (λ (c : List ℕ). length c) wants.first wants.end xs
      ∙ ap (between wants) even
      ∙ ap (drop wants.first) (take-replicate f (length xs) wants.end wants-known.1)
      ∙ drop-replicate f wants.end wants.first)
      ∙ sum-replicate f (number wants))

  -- what a read shows of the sound that has the needed contents is what it shows of the file's
  pub same-sound-dsd : {last : List ℕ} {r : Option Window}
      → Filling true (dsd_sound (contents_with (frame_bytes channels) wants (length xs) (dsd_sound (between wants xs)))) w out last r
      → Filling true (dsd_sound xs) w out last r
  unfolding dsd_sound
  same-sound-dsd q =
      let f = frame_bytes channels in
      let n = length xs in
      let lent = dsd_sound (between wants xs) in
      let k = wants-known in
      part_real (λ (c : List ℕ). c) (contents_with f wants n lent) xs (replicate n f) (with-sizes f wants n lent k.0 k.1 lent-even) even w out
      (frames-touched f n w.skip (length out - w.at))
      (ap dsd_sound (with_rows f wants n lent k.0 k.1 lent-even) ∙ rows-joined f (number wants) lent (sym lent-even))
      q

  -- what `dsd_data::fill` promises of those contents is a read of the file
  pub read_real_dsd : {last : List ℕ} {r : Option Window}
      → Filling (eqb (frame_bytes channels * number wants) (length (dsd_sound (between wants xs))))
      (dsd_sound (contents_with (frame_bytes channels) wants (length xs) (dsd_sound (between wants xs)))) w out last r
      → Filling true (dsd_sound xs) w out last r
  read_real_dsd q = same-sound-dsd (rw (eq-eqb (frame_bytes channels * number wants) (length (dsd_sound (between wants xs))) lent-even) at q)
