-- The goals that a check leaves.
use mathlib.Core.Path.{◌≡◌, ap, ap₂, ◌∙◌}
use mathlib.Core.Bool.{Bool, ◌||◌}
use mathlib.Core.List.{List}
use Prim.Native.Nat.{ℕ, ◌+◌, ◌-◌, ◌/◌, ◌^◌, ◌<◌}
use native.Mathlib.Omega.{arith}
use lib.ListN.{length, get_or}
use Rattle.refusal.specs.Below.{any}
use Rattle.refusal.proofs.BelowLaws.{below_none, below_more}
use Rattle.rows.specs.Lengths.{length_wrong, lengths_wrong}
use Rattle.rows.proofs.LengthLaws.{joined, before-wrong, halves}
use Rattle.rows.proofs.lengths.lengths_wrong.Goals as goal

-- whether a length is wrong, by its place
abbrev wrong : List ℕ → ℕ → Bool
wrong ls k = length_wrong (get_or ls k 0)

pub loop-i-init : goal.loop-i-init
loop-i-init c = (below_none _ _ _, below_none _ _ _)

pub loop-i-preserved : goal.loop-i-preserved
loop-i-preserved c = let j = length c.args.lengths.now / 2 + c.loop-i.i in
    let h : get_or c.args.lengths.now c.loop-i.i 0 < 2 ^ 32 = omega (arith, c.type_inv.lengths c.loop-i.i) in
    let k : get_or c.args.lengths.now j 0 < 2 ^ 32 = omega (arith, c.type_inv.lengths j) in (
      below_more _ _ _ c.loop-i.i c.loop-i.invariant.0 (before-wrong (get_or c.args.lengths.now c.loop-i.i 0) h) (joined c.loop-i.low _),
      below_more _ _ _ c.loop-i.i c.loop-i.invariant.1 (before-wrong (get_or c.args.lengths.now j 0) k) (joined c.loop-i.high _),
    )

pub returns : goal.returns
unfolding lengths_wrong
returns c = let m = length c.args.lengths.now / 2 in
    let odd = length c.args.lengths.now - m - m in
    let i : c.loop-i.i ≡ m + odd = omega arith in
    let n : m + (m + odd) ≡ length c.args.lengths.now = omega arith in
    joined c.loop-i.low c.loop-i.high
    ∙ ap₂ (λ (a b : Bool). a || b) (c.loop-i.invariant.0 ∙ ap (any (wrong c.args.lengths.now)) i) (c.loop-i.invariant.1 ∙ ap (any (λ k. wrong c.args.lengths.now (m + k))) i)
    ∙ halves (wrong c.args.lengths.now) m odd
    ∙ ap (any (wrong c.args.lengths.now)) n
