-- `local::repeats` meets its contract: the names in the order of their numbers. Assumes nothing.
use mathlib.Core.List.{map}
use mathlib.Core.Path.{◌≡◌, refl, ◌∙◌}
use Prim.Native.Nat.{ℕ}
use lib.Dec.{ltb}
use borrow.Author.Tests.{le-ltb}
use Rattle.refusal.specs.Below.{below}
use Rattle.refusal.specs.Orders.{local_rank, times}
use mathlib.Core.Bool.{Bool, true, false, ◌||◌}
use Rattle.local_rules.proofs.local.repeats.Goals as goal

-- from the last on, or from the first
turned : (a b c d e : Bool) → (a || (b || (c || (d || (e || false))))) ≡ (((((false || a) || b) || c) || d) || e)
turned true b c d e = refl
turned false true c d e = refl
turned false false true d e = refl
turned false false false true e = refl
turned false false false false true = refl
turned false false false false false = refl

pub returns-else-count-gt5 : goal.returns-else-count-gt5
unfolding below
returns-else-count-gt5 c =
    let twice : ℕ → Bool = λ rank. ltb 1 (times (map local_rank c.args.order.now) rank) in
    rw (le-ltb _ _ c.if-count-gt5.false) (c.any_twice.ensures ∙ turned (twice 0) (twice 1) (twice 2) (twice 3) (twice 4))
