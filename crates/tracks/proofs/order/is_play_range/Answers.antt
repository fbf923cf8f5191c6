-- `order::is_play_range` meets its contract. Assumes nothing.
use mathlib.Core.Path.{refl}
use Rattle.tracks.specs.Order.{is_play_range}
use Rattle.tracks.proofs.order.is_play_range.Goals as goal

pub returns : goal.returns
unfolding is_play_range
returns c = refl
