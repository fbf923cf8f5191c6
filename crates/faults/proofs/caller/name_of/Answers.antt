-- `caller::name_of` meets its contract. Assumes nothing.
use mathlib.Core.Path.{◌∙◌}
use Rattle.chunk.proofs.NumberLaws.{high_first}
use Rattle.faults.proofs.caller.name_of.Goals as goal

pub returns : goal.returns
returns c = c.to_be_bytes.ensures ∙ high_first 4 c.args.word
