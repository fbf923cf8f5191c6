-- `build::build_rows` meets its contract. Assumes nothing.
use mathlib.Core.Path.{refl, sym}
use Rattle.refusal.proofs.VerdictLaws.{handed-back}
use Rattle.assemble.proofs.BuildLaws.{refused, accepted}
use Rattle.assemble.proofs.build.build_rows.Goals as goal

pub returns-in_err-verdict : goal.returns-in_err-verdict
returns-in_err-verdict c = rw (handed-back c.from_residual.ensures.1) (refused _ c.orders.ensures _ _ refl (sym c.in_err-verdict.ensures))

pub lay_out-requires : goal.lay_out-requires
lay_out-requires c = sym c.in_ok-verdict.ensures

pub returns : goal.returns
returns c = accepted _ c.orders.ensures _ _ refl (sym c.in_ok-verdict.ensures) c.lay_out.ensures
