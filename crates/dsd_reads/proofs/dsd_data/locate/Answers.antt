-- `dsd_data::locate` meets its contract. Assumes nothing.
use borrow.Author.Rules.{rules}
use Rattle.dsd_reads.proofs.DsdLaws.{dsd_past, dsd_here, frame-sized}
use Rattle.dsd_reads.proofs.dsd_data.locate.Goals as goal

pub returns-then-all-place : goal.returns-then-all-place
returns-then-all-place c = dsd_past c.args.frame c.args.n c.args.place c.if-all-place.true

pub nonzero_div-result : goal.nonzero_div-result
nonzero_div-result c = let h = frame-sized c.args.frame c.args.n c.args.place c.if-all-place.false in search rules

pub nonzero_rem-result : goal.nonzero_rem-result
nonzero_rem-result c = let h = frame-sized c.args.frame c.args.n c.args.place c.if-all-place.false in search rules

pub returns-else-all-place : goal.returns-else-all-place
returns-else-all-place c = dsd_here c.args.frame c.args.n c.args.place c.if-all-place.false
