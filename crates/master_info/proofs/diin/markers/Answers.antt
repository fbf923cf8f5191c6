-- `diin::markers` meets its contract. Assumes nothing.
use Rattle.master_info.specs.Diin.{markers_of}
use Rattle.master_info.proofs.diin.markers.Goals as goal

pub returns-then-info : goal.returns-then-info
unfolding markers_of
returns-then-info c = rw c.if-info.true c.custom.ensures

pub returns-else-info : goal.returns-else-info
unfolding markers_of
returns-else-info c = rw c.if-info.false c.from_toc.ensures
