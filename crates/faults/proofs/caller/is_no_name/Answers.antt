-- `caller::is_no_name` meets its contract. Assumes nothing.
use mathlib.Core.Path.{◌≡◌, ap}
use lib.ListN.{length}
use Rattle.faults.specs.Caller.{is_no_name}
use Rattle.refusal.proofs.Listed.{by_elements}
use Rattle.faults.proofs.caller.is_no_name.Goals as goal

pub returns : goal.returns
returns c = let all : length c.args.name ≡ 4 = c.well_formed.0.1.0.1 in
    cc (ap is_no_name (by_elements 0 4 c.args.name all))
