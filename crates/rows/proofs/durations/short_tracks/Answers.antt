-- The goals that a check leaves.
use mathlib.Core.Path.{◌≡◌, refl, ap, ◌∙◌}
use mathlib.Core.List.{List}
use Prim.Native.Nat.{ℕ, ◌+◌, ◌/◌}
use native.Mathlib.Omega.{arith}
use borrow.Author.Rules.{rules}
use lib.ListN.{length, length-append, get_or}
use Rattle.std.specs.Iterator.Adapters.{enumerate_source}
use Rattle.rows.specs.Durations.{short_track, short_tracks}
use Rattle.refusal.proofs.BelowLaws.{below_none, below_more}
use Rattle.refusal.proofs.VerdictLaws.{first-found}
use Rattle.rows.proofs.RowLaws.{none_given, row_given, all_given, row_alone}
use Rattle.rows.proofs.durations.short_tracks.Goals as goal

pub loop-k-init : goal.loop-k-init
loop-k-init c = record { left = none_given 4 (search rules) (search rules); count = search rules; none = below_none _ _ _ }

pub returns-in_err-refuse_if : goal.returns-in_err-refuse_if
unfolding short_tracks
returns-in_err-refuse_if c =
    let steps = c.in-Some.ensures.steps in
    let n = length c.loop-k.yielded in
    let next = row_given 4 n (omega arith) c.loop-k.invariant.left c.in-Some.row (enumerate_source c.next.new.self) steps.0 in
    let word = c.word-short.ensures ∙ ap (λ (r : List ℕ). get_or r 1 0) (row_alone 4 c.args.tracks.now n next.0) in
    let number : c.in-Some.k ≡ n = steps.1 ∙ c.loop-k.invariant.count in
    let fault = rw (word, number) at c.in_err-refuse_if.ensures in
    first-found (short_track c.args.tracks.now) n (length c.args.tracks.now / 4) c.loop-k.invariant.none fault next.1 c.from_residual.ensures.1

pub loop-k-preserved : goal.loop-k-preserved
loop-k-preserved c =
    let steps = c.in-Some.ensures.steps in
    let n = length c.loop-k.yielded in
    let next = row_given 4 n (omega arith) c.loop-k.invariant.left c.in-Some.row (enumerate_source c.next.new.self) steps.0 in
    let word = c.word-short.ensures ∙ ap (λ (r : List ℕ). get_or r 1 0) (row_alone 4 c.args.tracks.now n next.0) in
    let number : c.in-Some.k ≡ n = steps.1 ∙ c.loop-k.invariant.count in
    let none = rw (word, number) at c.in_ok-refuse_if.ensures in
    rw length-append
    (record {
      left = next.2;
      count = steps.2 ∙ ap (λ (m : ℕ). m + 1) c.loop-k.invariant.count;
      none = below_more _ _ _ _ c.loop-k.invariant.none none refl;
    })

pub returns : goal.returns
unfolding short_tracks
returns c =
    rw (← all_given 4 (length c.loop-k.yielded) (omega arith) c.loop-k.invariant.left (enumerate_source c.next.new.self) c.in-None.ensures.steps.0)
    c.loop-k.invariant.none
