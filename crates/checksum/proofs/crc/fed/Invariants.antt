-- `crc::fed` meets its contract. Assumes nothing.
use Rattle.std.proofs.Common.{◌≡◌}
use Rattle.checksum.specs.Steps.{after_units, units_from}
use Rattle.checksum.proofs.crc.fed.Given as goal

abbrev pub invariant-loop-unit : goal.invariant-loop-unit
invariant-loop-unit l = l.s ≡ after_units 1 0 (units_from l.bytes 0) l.unit-index
