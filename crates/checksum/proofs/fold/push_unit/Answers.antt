-- `fold::push_unit` meets its contract. Assumes nothing.
use Rattle.checksum.proofs.RingLaws.{ring_step}
use Rattle.checksum.proofs.fold.push_unit.Goals as goal

pub returns : goal.returns
returns c = ring_step c.args.ring.now c.args.i c.args.unit c.told-ring
