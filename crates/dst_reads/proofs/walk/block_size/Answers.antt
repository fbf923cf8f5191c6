-- The goals that a check leaves.
use mathlib.Core.Path.{sym, ◌∙◌}
use mathlib.Core.Bool.{Bool}
use Prim.Native.Nat.{ℕ, ◌≤◌, ◌<◌}
use native.Mathlib.Numerals.{add-one}
use native.Mathlib.Omega.{arith}
use lib.ListN.{get_or, length-map}
use Rattle.dst.specs.Unit.{unit_size, sizes}
use Rattle.dst.proofs.StartLaws.{start-zero, start_all}
use Rattle.dst.proofs.UnitLaws.{start-next, unit-most}
use Rattle.dst_reads.proofs.walk.block_size.Goals as goal

-- what the unit of a small length can have
unit-fits : (crc : Bool) (l : ℕ) → l < 33554432 → unit_size crc l ≤ 33554460
unit-fits crc l h = omega (arith, unit-most crc l)

pub loop-length-init : goal.loop-length-init
loop-length-init c = record { small = omega arith; sum = sym (start-zero (sizes c.args.crc c.args.block.now)) }

pub overflow_cast-all : goal.overflow_cast-all
overflow_cast-all c =
    let i = c.loop-length.length-index in
    omega (arith, c.unit_size.ensures, unit-fits c.args.crc (get_or c.args.block.now i 0) (c.requires i (omega arith)))

pub overflow_add-all : goal.overflow_add-all
overflow_add-all c =
    let i = c.loop-length.length-index in
    omega (arith, c.unit_size.ensures, unit-fits c.args.crc (get_or c.args.block.now i 0) (c.requires i (omega arith)))

pub loop-length-preserved : goal.loop-length-preserved
loop-length-preserved c =
    let i = c.loop-length.length-index in
    let next = start-next c.args.crc c.args.block.now i (omega arith) in
    record {
      small = omega (arith, c.unit_size.ensures, unit-fits c.args.crc (get_or c.args.block.now i 0) (c.requires i (omega arith)));
      sum = rw add-one (omega (arith, next, c.unit_size.ensures, c.loop-length.invariant.sum));
    }

pub returns : goal.returns
returns c =
    c.loop-length.invariant.sum
    ∙ start_all (sizes c.args.crc c.args.block.now) c.loop-length.length-index (omega (arith, length-map c.args.block.now (unit_size c.args.crc)))
