-- The goals that a check leaves.
use mathlib.Core.Path.{sym, ◌∙◌}
use native.Mathlib.Numerals.{add-one}
use native.Mathlib.Omega.{arith}
use lib.ListN.{get_or, length-map}
use Rattle.dst.specs.Unit.{unit_size, sizes}
use Rattle.dst.proofs.StartLaws.{start-zero, start_all}
use Rattle.dst.proofs.UnitLaws.{start-next, unit-most}
use Rattle.dst.proofs.unit.units_of_few.Goals as goal

pub loop-length-init : goal.loop-length-init
loop-length-init c = record { small = omega arith; sum = sym (start-zero (sizes c.args.crc c.args.lengths.now)) }

pub overflow_add-all : goal.overflow_add-all
overflow_add-all c =
    let i = c.loop-length.length-index in
    omega (arith, c.unit_size-all.ensures, unit-most c.args.crc (get_or c.args.lengths.now i 0), c.type_inv.lengths i)

pub loop-length-preserved : goal.loop-length-preserved
loop-length-preserved c =
    let i = c.loop-length.length-index in
    let next = start-next c.args.crc c.args.lengths.now i c.loop-length-test.true in
    record {
      small = omega (arith, c.unit_size-all.ensures, unit-most c.args.crc (get_or c.args.lengths.now i 0), c.type_inv.lengths i);
      sum = rw add-one (omega (arith, next, c.unit_size-all.ensures, c.loop-length.invariant.sum));
    }

pub returns : goal.returns
returns c =
    c.loop-length.invariant.sum
    ∙ start_all (sizes c.args.crc c.args.lengths.now) c.loop-length.length-index
    (omega (arith, c.loop-length-test.false, length-map c.args.lengths.now (unit_size c.args.crc)))
