-- The goals that a check leaves.
use Rattle.std.proofs.Common.{◌≡◌, sym, ap, ◌∙◌, ℕ, suc, ◌+◌, ◌*◌, ◌^◌, arith}
use Rattle.checksum.specs.Steps.{feed, after_units, units_from, ring_of}
use Rattle.checksum.proofs.RingLaws.{ring_start, ring_round, halves-next, after_next}
use Rattle.checksum.proofs.fold.halved.Goals as goal

pub loop-j-init : goal.loop-j-init
unfolding after_units
loop-j-init c = λ k e. ring_start (2 ^ k)

pub loop-j-preserved : goal.loop-j-preserved
loop-j-preserved c = let f = units_from c.args.units.now c.args.n in
    let h : (c.loop-j.j + 1) * 2 ≡ c.loop-j.j * 2 + 1 + 1 = omega arith in
    λ k e.
    ap (ring_of (2 ^ k) c.push_unit-in-loop-j.new.ring) h
    ∙ halves-next k c.args.half (f c.loop-j.j) (ring_of (2 ^ k) c.loop-j.ring (c.loop-j.j * 2)) _ _ e (c.push_unit.ensures k) (c.push_unit-in-loop-j.ensures k)
    ∙ ap (λ (r : ℕ). feed (2 ^ suc k) r (f c.loop-j.j)) (c.loop-j.invariant k e)
    ∙ after_next (2 ^ suc k) 0 f c.loop-j.j

pub returns : goal.returns
unfolding ring_of
returns c = let h : c.loop-j.j ≡ 32 = omega arith in
    λ k e.
    sym (ring_round (2 ^ k) c.loop-j.ring) ∙ ap (λ (j : ℕ). ring_of (2 ^ k) c.loop-j.ring (j * 2)) (sym h) ∙ c.loop-j.invariant k e
    ∙ ap (after_units (2 ^ suc k) 0 (units_from c.args.units.now c.args.n)) h
