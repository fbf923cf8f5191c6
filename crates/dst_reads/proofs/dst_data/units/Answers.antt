-- The goals that a check leaves.
use mathlib.Core.List.{flat_map}
use mathlib.Core.Path.{refl, ◌∙◌}
use native.Mathlib.Omega.{arith}
use native.Mathlib.Numerals.{add-one}
use native.Mathlib.Nat.{mul-suc, mul-zero}
use lib.ListN.{get_or, take, length-drop}
use lib.Seq.{drop-drop}
use Rattle.sound_reads.specs.Lent.{lent_frames}
use Rattle.dst.specs.Start.{sum}
use Rattle.dst.specs.Unit.{sound}
use Rattle.dst_reads.proofs.FillLaws.{code-within, next-unit}
use Rattle.window.proofs.WindowLaws.{nothing}
use Rattle.dst.proofs.StartLaws.{sum-suc}
use Rattle.dst_reads.proofs.dst_data.units.Goals as goal

pub loop-length-init : goal.loop-length-init
unfolding sound lent_frames flat_map sum
loop-length-init c = record { frames = refl; contents = rw mul-zero; room = refl; put = nothing _ _ }

-- a frame's bytes lie within those that are lent
pub split_at-requires : goal.split_at-requires
split_at-requires c =
    let within = code-within c.args.lengths.now c.loop-length.length-index c.loop-length-test.true in
    rw (c.loop-length.invariant.frames, length-drop) (omega (arith, within, c.requires.lengths_value))

pub loop-length-preserved : goal.loop-length-preserved
loop-length-preserved c =
    let i = c.loop-length.length-index in
    let here = c.loop-length.invariant in
    let lengths = c.args.lengths.now in
    let next = sum-suc lengths i c.loop-length-test.true in
    record {
      frames = rw (add-one, next, ← drop-drop (get_or lengths i 0) (sum (take i lengths)) c.args.frames.now, ← here.frames) c.split_at.ensures.back;
      contents = rw (add-one, mul-suc, ← drop-drop c.args.n _ c.args.contents.now, ← here.contents) c.split_at-in-loop-length.ensures.back;
      room = c.unit-w.auto.out ∙ here.room;
      put =
          next-unit c.args.crc c.args.n lengths c.args.frames.now c.args.contents.now c.loop-length-test.true here.put
          (rw (c.split_at.ensures.front, here.frames, c.split_at-in-loop-length.ensures.front, here.contents) at c.unit-w.ensures);
    }
