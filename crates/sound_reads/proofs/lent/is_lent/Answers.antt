-- `lent::is_lent` meets its contract. Assumes nothing.
use mathlib.Core.Path.{refl}
use native.Mathlib.Omega.{arith}
use Rattle.sound_reads.proofs.LentLaws.{lent_tested}
use Rattle.sound_reads.proofs.lent.is_lent.Goals as goal
use Rattle.sound_reads.proofs.lent.is_lent.Goals.{then-eq, else-eq}

pub returns-then-joined-frames : goal.returns-then-joined-frames
returns-then-joined-frames c =
    let tested = lent_tested c.args.w c.args.needed.now c.args.lengths.now c.args.frames.now c.args.contents.now (omega arith) in
    elim c.if-eq.branch [
      | then-eq w ↦ rw (tested, ← c.eq.ensures, w.if-eq.true, ← w.joined.ensures, ← w.value-is, c.if-joined-frames.true) c.is_times.ensures
      | else-eq w ↦ cc
    ]

pub returns-else-joined-frames : goal.returns-else-joined-frames
returns-else-joined-frames c =
    let tested = lent_tested c.args.w c.args.needed.now c.args.lengths.now c.args.frames.now c.args.contents.now (omega arith) in
    elim c.if-eq.branch [
      | then-eq w ↦ rw (tested, ← c.eq.ensures, w.if-eq.true, ← w.joined.ensures, ← w.value-is, c.if-joined-frames.false) refl
      | else-eq w ↦ rw (tested, ← c.eq.ensures, w.if-eq.false) c.if-joined-frames.false
    ]
