-- THE NUMBERS OF REFUSALS: a build's are 1 to 41, a query's 42, a read's 42 and 43; none is 0, so that the number 0 is never a refusal's. Assumes nothing.
use Rattle.std.specs.Prelude.{◌≡◌, List, ℕ, ◌≤◌, Err}
use Rattle.refusal.specs.Verdict.{Verdict, refusal_number}
use Rattle.refusal.specs.declared.verdict.Refusal.{Refusal}
use Rattle.build_options.specs.Inputs.{Inputs}
use Rattle.assemble.specs.Build.{build_verdict}
use Rattle.read_rules.specs.declared.format.SoundFormat.{SoundFormat}
use Rattle.read_rules.specs.Fault.{format_fault}
use Rattle.file_read.specs.Read.{Request, read_verdict}

-- if it is a refusal, its number is one of these
pub record Within (low high : ℕ) (v : Verdict) : Type 0 where
  pub least : (r : Refusal) → v ≡ Err r → low ≤ refusal_number r
  pub most : (r : Refusal) → v ≡ Err r → refusal_number r ≤ high

pub record Numbered : Type 0 where
  pub build : (x : Inputs) (header trailer : List ℕ) → Within 1 41 (build_verdict x header trailer)
  pub query : (f : SoundFormat) (lengths : List ℕ) (header trailer : ℕ) → Within 42 42 (format_fault f lengths header trailer)
  pub read : (q : Request) (room : ℕ) → Within 42 43 (read_verdict q room)
