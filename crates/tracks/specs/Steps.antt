-- Steps of one pass over spans.
-- Only contracts of private functions cite these; no promise of a public function does. Assumes nothing.
use Rattle.std.specs.Prelude.{true, false, cond, ◌&&◌, leb}
use Rattle.tracks.specs.declared.track.Span.{Span}
use Rattle.tracks.specs.declared.order.Order.{Order}
use Rattle.tracks.specs.Track.{has_frames}

-- what is known of spans after one more
unfoldable pub order_with : Order → Span → Order
order_with o s =
    cond (has_frames s)
    (record { left = true; whole = o.whole; ordered = o.ordered && leb o.end s.start; end = s.end })
    (record { left = o.left; whole = false; ordered = o.ordered; end = o.end })
