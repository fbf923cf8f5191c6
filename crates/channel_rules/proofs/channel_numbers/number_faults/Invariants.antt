-- `channel_numbers::number_faults` meets its contract. Assumes nothing.
use mathlib.Core.Path.{◌≡◌}
use Rattle.std.specs.Prelude.{Ok}
use Rattle.refusal.specs.Below.{first_refused}
use Rattle.channel_rules.specs.ChannelNumbers.{number_fault}
use Rattle.channel_rules.proofs.channel_numbers.number_faults.Given as goal

-- none of the numbers so far is refused
abbrev pub invariant-loop-k : goal.invariant-loop-k
invariant-loop-k l = Ok tt ≡ first_refused (number_fault l.numbers) l.k
