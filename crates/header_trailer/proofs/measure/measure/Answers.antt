-- `measure::measure` meets its contract. Assumes nothing.
use Rattle.file_tree.proofs.FileLaws.{length-front-sized}
use Rattle.header_trailer.proofs.measure.measure.Goals as goal

pub returns : goal.returns
returns c = record {
  orders = c.orders.ensures;
  front = rw (c.new-start.ensures, length-front-sized) at c.front_sized-front.ensures.place;
  back = rw c.new-start.ensures at c.back-back.ensures.place;
}
