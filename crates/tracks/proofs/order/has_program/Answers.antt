-- `order::has_program` meets its contract. Assumes nothing.
use mathlib.Core.Path.{◌≡◌}
use mathlib.Core.Bool.{cond}
use Rattle.tracks.specs.Track.{spans, exact}
use Rattle.tracks.specs.Order.{is_play_range, has_program}
use Rattle.tracks.proofs.order.has_program.Goals as goal
use Rattle.tracks.proofs.order.has_program.Goals.{then-is_play_range, else-is_play_range}

pub returns : goal.returns
unfolding has_program
returns c =
    let allowed : c.if-is_play_range.allowed ≡ cond (is_play_range c.args.p) (exact (spans c.args.tracks.now)) c.args.p.clipped_program =
    elim c.if-is_play_range.branch [
      | then-is_play_range w ↦ rw (w.allowed-is, ← w.if-is_play_range.ensures) w.exact-allowed.ensures
      | else-is_play_range w ↦ rw (w.allowed-is, ← w.if-is_play_range.ensures)
    ]
    in rw (c.clipped_order-left.ensures.left_value, c.clipped_order-left.ensures.ordered_value, allowed)
