-- `order::exact` meets its contract: the largest range changes no span. Assumes nothing.
use Rattle.tracks.proofs.OrderLaws.{exact-known}
use Rattle.tracks.proofs.order.exact.Goals as goal

pub returns : goal.returns
returns c = rw (c.clipped_order-o.ensures.whole_value, c.clipped_order-o.ensures.ordered_value) (exact-known c.args.tracks.now)
