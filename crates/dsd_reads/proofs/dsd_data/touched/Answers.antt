-- `dsd_data::touched` meets its contract. Assumes nothing.
use mathlib.Core.Logic.{inl, inr, ⊎_elim}
use native.Mathlib.Omega.{arith}
use lib.ListN.{replicate, length-replicate}
use Rattle.dsd_reads.proofs.DsdLaws.{within-frame, ends}
use Rattle.sound_reads.proofs.PositionsLaws.{none-touched}
use Rattle.dsd_reads.proofs.dsd_data.touched.Goals as goal

pub returns-then-count-eq0 : goal.returns-then-count-eq0
returns-then-count-eq0 c =
    let n = length-replicate c.args.n c.args.frame in
    none-touched (replicate c.args.n c.args.frame) c.args.place c.args.count (⊎_elim inl (λ p. inr (omega (arith, p.1))) c.then-count-eq0.either)

pub returns : goal.returns
returns c =
    let within = within-frame c.args.frame c.args.n c.args.place c.requires c.if-n-first.false in
    ends c.args.frame c.args.n c.args.place.position c.args.place.within c.args.count c.min-later.result c.if-n-first.false within (omega arith)
    (rw (c.div_ceil.ensures, c.saturating_sub.ensures) at c.min-later.ensures)
