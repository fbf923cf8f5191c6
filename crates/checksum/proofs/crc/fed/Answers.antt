-- The goals that a check leaves.
use Rattle.std.proofs.Common.{◌≡◌, refl, sym, ap, ap₂, ◌∙◌, ℕ, ◌+◌, ◌%◌, arith, get_or}
use Rattle.checksum.specs.Crc.{byte_of}
use Rattle.checksum.specs.Steps.{after_units, units_from, ring_of}
use Rattle.checksum.proofs.RingLaws.{after_next, feed_byte}
use Rattle.checksum.proofs.crc.fed.Goals as goal

pub loop-unit-init : goal.loop-unit-init
unfolding after_units
loop-unit-init c = refl

pub loop-unit-preserved : goal.loop-unit-preserved
loop-unit-preserved c = let f = units_from c.args.bytes.now 0 in
    let h : (0 + c.loop-unit.unit-index) % 32 ≡ c.loop-unit.unit-index = omega arith in
    c.next-s.ensures
    ∙ ap₂ (λ (r k : ℕ). byte_of r (get_or c.args.bytes.now k 0 % 256)) c.loop-unit.invariant (sym h)
    ∙ sym (feed_byte (after_units 1 0 f c.loop-unit.unit-index) (f c.loop-unit.unit-index))
    ∙ after_next 1 0 f c.loop-unit.unit-index

pub returns : goal.returns
unfolding ring_of
returns c = let h : c.loop-unit.unit-index ≡ 32 = omega arith in
    c.loop-unit.invariant ∙ ap (after_units 1 0 (units_from c.args.bytes.now 0)) h
