-- `scalars::has_no_scalar` meets its contract. Assumes nothing.
use mathlib.Core.Path.{◌≡◌}
use lib.ListN.{get_or}
use Rattle.refusal.specs.Below.{any}
use Rattle.rows.specs.Scalars.{is_no_scalar}
use Rattle.rows.proofs.scalars.has_no_scalar.Given as goal

abbrev pub invariant-loop-x : goal.invariant-loop-x
invariant-loop-x l = l.found ≡ any (λ k. is_no_scalar (get_or l.values k 0)) l.x-index
