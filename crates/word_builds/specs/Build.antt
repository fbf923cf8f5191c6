-- THE PROMISE OF A BUILD FROM WORDS: that of a build, but that a fault of the words refuses first. Assumes nothing.
use Rattle.std.specs.Prelude.{List, ℕ}
use Rattle.refusal.specs.Verdict.{or_else}
use Rattle.refusal.specs.Verdict.{Verdict}
use Rattle.build_options.specs.Inputs.{Inputs}
use Rattle.build_answer.specs.Answer.{Answer}
use Rattle.assemble.specs.Build.{build_verdict, Outcome}

-- of words with the fault f that mean the inputs x; without a fault it is `Builds x h h' t t' r` itself
abbrev pub BuildsUnless : Verdict → Inputs → List ℕ → List ℕ → List ℕ → List ℕ → Answer → Type 0
BuildsUnless f x h h' t t' r = Outcome x (or_else f (build_verdict x h t)) h h' t t' r
