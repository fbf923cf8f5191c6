-- What the exported build leaves: 01's number, the buffers, and the values of the answer. Assumes nothing.
use Rattle.std.specs.Prelude.{◌≡◌, List, ℕ}
use Rattle.chunk.specs.Append.{overlay}
use Rattle.refusal.specs.Verdict.{Verdict}
use Rattle.build_options.specs.Inputs.{Inputs}
use Rattle.build_answer.specs.Answer.{Answer}
use Rattle.build_answer.specs.Answer.{build_number, build_values}
use Rattle.word_builds.specs.Build.{BuildsUnless}

-- of words with the fault f that mean the inputs x, buffers h and t for header and trailer, and a for the values, as many as it has room for: what a build from words promises, of an
-- answer with this number and these values
pub record Exported (f : Verdict) (x : Inputs) (h h' t t' a a' : List ℕ) (n : ℕ) : Type 0 where
  pub answer : Answer
  pub promise : BuildsUnless f x h h' t t' answer
  pub number : n ≡ build_number answer
  pub values : a' ≡ overlay a 0 (build_values answer)
