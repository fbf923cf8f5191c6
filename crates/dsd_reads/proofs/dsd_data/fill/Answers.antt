-- `dsd_data::fill` meets its contract. Assumes nothing.
use mathlib.Core.Bool.{false}
use mathlib.Core.Path.{◌≡◌, refl}
use Prim.Native.Nat.{ℕ, ◌*◌, ◌-◌, ◌^◌, ◌≤◌, ◌<◌}
use native.Mathlib.Omega.{arith}
use native.Mathlib.Nat.{mul-le-mul_left}
use mathlib.Core.List.{List}
use Rattle.window.specs.declared.window.Window.{Window}
use lib.ListN.{length, replicate}
use lib.Dec.{eqb}
use borrow.Author.Tests.{eq-eqb, ne_eqb}
use Rattle.sound_reads.specs.declared.place.Place.{Place}
use Rattle.sound_reads.specs.declared.place.Positions.{Positions}
use Rattle.sound_reads.specs.Place.{place_of}
use Rattle.sound_reads.specs.Steps.{byte_at}
use Rattle.sound_reads.specs.Positions.{positions_for, number}
use Rattle.dst.specs.Frame.{frame_bytes}
use Rattle.dst.proofs.FrameLaws.{sound-short}
use Rattle.dsd_reads.proofs.DsdLaws.{wanted-known, filled-contents}
use Rattle.sound_reads.proofs.PlaceLaws.{inside, byte_at_lem}
use Rattle.dsd_reads.proofs.dsd_data.fill.Goals as goal

-- the positions that were found are those that the read needs
wanted : (bytes n skip room frame free : ℕ) (place : Place) (p : Positions)
    → frame ≡ bytes → place ≡ place_of (replicate n frame) skip → free ≡ room
    → p ≡ positions_for (replicate n frame) (byte_at (replicate n frame) place) free → p ≡ positions_for (replicate n bytes) skip room
wanted bytes n skip room frame free place p b e f t = rw (← b, ← byte_at_lem (replicate n frame) skip, ← e, ← f) t

known : (bytes n : ℕ) (contents : List ℕ) (w : Window) (out : List ℕ) (p : Positions)
    → p ≡ positions_for (replicate n bytes) w.skip (length out - w.at) → (p.first ≤ p.end) × (p.end ≤ n)
known bytes n contents w out p e = rw e (wanted-known bytes n contents w out)

pub locate-place-requires : goal.locate-place-requires
locate-place-requires c = rw c.frame_bytes-frame.ensures (sound-short c.args.channels c.args.n c.ranges.channels.fits c.ranges.n.fits)

pub touched-first-requires : goal.touched-first-requires
touched-first-requires c = rw c.locate-place.ensures (inside (replicate c.args.n c.frame_bytes-frame.result) c.args.w.skip)

pub overflow_sub-end : goal.overflow_sub-end
overflow_sub-end c =
    let k = known (frame_bytes c.args.channels) c.args.n c.args.contents.now c.args.w c.args.out.now _ (wanted _ _ _ _ _ _ _ _ c.frame_bytes-frame.ensures c.locate-place.ensures c.saturating_sub-free.ensures c.touched-first.ensures) in
    omega (arith, k.0)

pub overflow_mul-frame : goal.overflow_mul-frame
overflow_mul-frame c =
    let k = known (frame_bytes c.args.channels) c.args.n c.args.contents.now c.args.w c.args.out.now _ (wanted _ _ _ _ _ _ _ _ c.frame_bytes-frame.ensures c.locate-place.ensures c.saturating_sub-free.ensures c.touched-first.ensures) in
    let m : c.frame_bytes-frame.result * number c.touched-first.result ≤ c.frame_bytes-frame.result * c.args.n = mul-le-mul_left c.frame_bytes-frame.result (omega (arith, k.0, k.1)) in
    let s : c.frame_bytes-frame.result * c.args.n < 2 ^ 63 = rw c.frame_bytes-frame.ensures (sound-short c.args.channels c.args.n c.ranges.channels.fits c.ranges.n.fits) in
    omega (arith, m, s)

pub returns-then-frame-end : goal.returns-then-frame-end
returns-then-frame-end c =
    let found = wanted _ _ _ _ _ _ _ _ c.frame_bytes-frame.ensures c.locate-place.ensures c.saturating_sub-free.ensures c.touched-first.ensures in
    let f : eqb (frame_bytes c.args.channels * number (positions_for (replicate c.args.n (frame_bytes c.args.channels)) c.args.w.skip (length c.args.out.now - c.args.w.at))) (length c.args.contents.now) ≡ false =
    rw (← found, ← c.frame_bytes-frame.ensures) (ne_eqb _ _ c.if-frame-end.true) in
    rw f (record { answer = refl; buffer = refl })

pub returns : goal.returns
returns c =
    let found = wanted _ _ _ _ _ _ _ _ c.frame_bytes-frame.ensures c.locate-place.ensures c.saturating_sub-free.ensures c.touched-first.ensures in
    let g : frame_bytes c.args.channels * number (positions_for (replicate c.args.n (frame_bytes c.args.channels)) c.args.w.skip (length c.args.out.now - c.args.w.at)) ≡ length c.args.contents.now =
    rw (← found, ← c.frame_bytes-frame.ensures) c.if-frame-end.false in
    rw (eq-eqb _ _ g, c.filled.ensures, c.locate-place.ensures, c.frame_bytes-frame.ensures)
    (filled-contents (frame_bytes c.args.channels) c.args.n c.args.contents.now c.args.w c.args.out.now g {v = c.put-v.result}
    (rw (← c.frame_bytes-frame.ensures, ← c.locate-place.ensures) c.put-v.ensures))
