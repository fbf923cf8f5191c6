-- The goals that a check leaves.
use mathlib.Core.Path.{◌≡◌}
use mathlib.Core.Logic.{inl, inr, ⊎_elim}
use native.Mathlib.Omega.{arith}
use lib.ListN.{length, length-map}
use Rattle.dst.specs.Unit.{unit_size, sizes}
use Rattle.sound_reads.proofs.PositionsLaws.{none-touched}
use Rattle.dst_reads.proofs.WalkLaws.{inside-unit, unit-sized, reach_here, reach_on, reach_end}
use Rattle.dst_reads.proofs.walk.touched.Goals as goal

pub returns-then-count-eq0 : goal.returns-then-count-eq0
returns-then-count-eq0 c =
    let n = length-map c.args.lengths.now (unit_size c.args.crc) in
    none-touched (sizes c.args.crc c.args.lengths.now) c.args.place c.args.count (⊎_elim inl (λ p. inr (omega (arith, p.1))) c.then-count-eq0.either)

pub returns-then-left-rest : goal.returns-then-left-rest
returns-then-left-rest c =
    let inside = inside-unit (unit_size c.args.crc) c.args.lengths.now c.args.place c.requires c.if-lengths-first.false in
    reach_here (unit_size c.args.crc) c.args.lengths.now (unit-sized c.args.crc) c.args.place.position c.args.place.within c.args.count
    c.if-lengths-first.false inside (omega arith) c.loop-k.invariant c.loop-k-test.true (rw c.unit_size.ensures at c.if-left-rest.true)

pub loop-k-preserved : goal.loop-k-preserved
loop-k-preserved c =
    let inside = inside-unit (unit_size c.args.crc) c.args.lengths.now c.args.place c.requires c.if-lengths-first.false in
    rw c.unit_size.ensures
    (reach_on (unit_size c.args.crc) c.args.lengths.now (unit-sized c.args.crc) c.args.place.position c.args.place.within c.args.count
    c.if-lengths-first.false inside (omega arith) c.loop-k.invariant c.loop-k-test.true (rw c.unit_size.ensures at c.if-left-rest.false))

pub returns : goal.returns
returns c =
    let inside = inside-unit (unit_size c.args.crc) c.args.lengths.now c.args.place c.requires c.if-lengths-first.false in
    let all : c.loop-k.k ≡ length c.args.lengths.now = omega arith in
    rw all at
    (reach_end (unit_size c.args.crc) c.args.lengths.now (unit-sized c.args.crc) c.args.place.position c.args.place.within c.args.count
    c.if-lengths-first.false inside (omega arith) c.loop-k.invariant c.loop-k-test.false)
