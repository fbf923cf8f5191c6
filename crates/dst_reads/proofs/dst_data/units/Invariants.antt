-- `dst_data::units` meets its contract. The invariant: the units of the frames so far are put, and what is left of the bytes and of the contents is
-- those of the frames that follow. Assumes nothing.
use mathlib.Core.Path.{◌≡◌}
use Prim.Native.Nat.{◌*◌}
use lib.ListN.{length, take, drop}
use Rattle.sound_reads.specs.Lent.{lent_frames}
use Rattle.window.specs.Window.{Wrote}
use Rattle.dst.specs.Start.{sum}
use Rattle.dst.specs.Unit.{sound}
use Rattle.dst_reads.proofs.dst_data.units.Given as goal

abbrev pub invariant-loop-length : goal.invariant-loop-length
invariant-loop-length l = record {
  frames : l.frames_left ≡ drop (sum (take l.length-index l.lengths)) l.frames;
  contents : l.contents_left ≡ drop (l.n * l.length-index) l.contents;
  room : length l.out ≡ length l.initial.out;
  put : Wrote (sound l.crc (lent_frames l.n (take l.length-index l.lengths) l.frames l.contents)) l.initial.w l.initial.out l.out l.w;
}
