-- `Order::add` meets its contract. Assumes nothing.
use Rattle.tracks.specs.Steps.{order_with}
use Rattle.tracks.proofs.order.Order.add.Goals as goal

pub returns-then-has_frames : goal.returns-then-has_frames
unfolding order_with
returns-then-has_frames c = rw (← c.if-has_frames.ensures)

pub returns-else-has_frames : goal.returns-else-has_frames
unfolding order_with
returns-else-has_frames c = rw (← c.if-has_frames.ensures)
