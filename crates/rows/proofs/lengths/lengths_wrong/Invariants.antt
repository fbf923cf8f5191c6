-- `lengths::lengths_wrong` meets its contract. Assumes nothing.
use mathlib.Core.Path.{◌≡◌}
use mathlib.Core.Bool.{Bool}
use mathlib.Core.List.{List}
use Prim.Native.Nat.{ℕ, ◌+◌}
use lib.Dec.{ltb}
use lib.ListN.{get_or}
use Rattle.refusal.specs.Below.{any}
use Rattle.rows.specs.Lengths.{length_wrong}
use Rattle.rows.proofs.lengths.lengths_wrong.Given as goal

-- whether a length is wrong, by its place
abbrev wrong : List ℕ → ℕ → Bool
wrong ls k = length_wrong (get_or ls k 0)

abbrev pub invariant-loop-i : goal.invariant-loop-i
invariant-loop-i l = (ltb 65_535 l.low ≡ any (wrong l.lengths) l.i) × (ltb 65_535 l.high ≡ any (λ k. wrong l.lengths (l.second + k)) l.i)
