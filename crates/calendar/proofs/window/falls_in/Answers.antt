-- `window::falls_in` meets its contract. Assumes nothing.
use Rattle.refusal.proofs.VerdictLaws.{handed-back}
use Rattle.calendar.specs.Window.{falls_in}
use Rattle.calendar.proofs.window.falls_in.Goals as goal

pub returns-in_err-window_fault : goal.returns-in_err-window_fault
unfolding falls_in
returns-in_err-window_fault c = rw (← c.in_err-window_fault.ensures) (handed-back c.from_residual.ensures.1)

pub returns : goal.returns
unfolding falls_in
returns c = rw (← c.in_ok-window_fault.ensures, c.is_inside.ensures)
