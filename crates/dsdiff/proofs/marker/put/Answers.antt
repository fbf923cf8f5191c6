-- `marker::put` meets its contract: each branch's test says which case of `stored` holds. Assumes nothing.
use borrow.Author.Tests.{lt-ltb, le-ltb}
use Rattle.dsdiff.proofs.marker.put.Goals as goal

pub returns-then-i-lt-MOST_MARKERS : goal.returns-then-i-lt-MOST_MARKERS
returns-then-i-lt-MOST_MARKERS c = rw (lt-ltb _ _ c.if-i-lt-MOST_MARKERS.true) (cc)

pub returns-else-i-lt-MOST_MARKERS : goal.returns-else-i-lt-MOST_MARKERS
returns-else-i-lt-MOST_MARKERS c = simp (le-ltb _ _ c.if-i-lt-MOST_MARKERS.false)
