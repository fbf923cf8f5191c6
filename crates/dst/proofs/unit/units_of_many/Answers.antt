-- The goals that a check leaves.
use native.Mathlib.Numerals.{add-one}
use native.Mathlib.Omega.{arith}
use lib.ListN.{length-map}
use Rattle.dst.specs.Unit.{unit_size, sizes}
use Rattle.dst.proofs.StartLaws.{start-zero, start_all}
use Rattle.dst.proofs.UnitLaws.{start-next}
use Rattle.dst.proofs.unit.units_of_many.Goals as goal

pub loop-length-init : goal.loop-length-init
loop-length-init c = omega (arith, start-zero (sizes c.args.crc c.args.lengths.now))

pub loop-length-preserved : goal.loop-length-preserved
loop-length-preserved c =
    let next = start-next c.args.crc c.args.lengths.now c.loop-length.length-index c.loop-length-test.true in
    rw add-one (omega (arith, next, c.saturating_add-all.ensures, c.unit_size.ensures, c.loop-length.invariant))

pub returns : goal.returns
returns c =
    let all =
    start_all (sizes c.args.crc c.args.lengths.now) c.loop-length.length-index
    (omega (arith, c.loop-length-test.false, length-map c.args.lengths.now (unit_size c.args.crc))) in
    rw all at c.loop-length.invariant
