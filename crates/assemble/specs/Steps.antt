-- A step of a build.
-- Only contracts of private functions cite these; no promise of a public function does. Assumes nothing.
use Rattle.std.specs.Prelude.{List, ℕ}
use Rattle.build_options.specs.Inputs.{Inputs}
use Rattle.build_answer.specs.Answer.{Answer}
use Rattle.assemble.specs.Build.{room_fault, Outcome}

-- what is left to do of accepted inputs
abbrev pub LaysOut : Inputs → List ℕ → List ℕ → List ℕ → List ℕ → Answer → Type 0
LaysOut x h h' t t' r = Outcome x (room_fault x h t) h h' t t' r
