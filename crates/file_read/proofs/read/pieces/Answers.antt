-- `read::pieces` meets its contract. Assumes nothing.
use mathlib.Core.Path.{◌≡◌}
use Rattle.refusal.specs.declared.verdict.Refusal.TheVariants.{NotLent}
use Rattle.refusal.proofs.VerdictLaws.{handed-back}
use Rattle.file_read.specs.Read.{asked}
use Rattle.file_read.proofs.PieceLaws.{not-lent, laid}
use Rattle.file_read.proofs.read.pieces.Goals as goal

pub returns-in_err-w : goal.returns-in_err-w
returns-in_err-w c =
    let none = c.in_err-w.ensures.ok_part in
    let told : c.in_err-w.field-0.0 ≡ NotLent = cc (rw none at c.in_err-w.ensures.value) in
    rw (handed-back c.from_residual.ensures.1, told)
    (not-lent (asked c.args.request.now) c.args.out.now c.past-behind.ensures c.fill.ensures none)

pub returns : goal.returns
returns c =
    laid (asked c.args.request.now) c.args.out.now c.past-behind.ensures c.fill.ensures c.in_ok-w.ensures.ok_part c.put-end.ensures
    c.put.ensures
