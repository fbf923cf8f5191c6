-- The answer of the exported verdict. Assumes nothing.
use Rattle.std.specs.Prelude.{ℕ, ◌+◌, ◌*◌, ◌^◌, ◌%◌}
use Rattle.refusal.specs.Verdict.{number_of, detail_of}
use Rattle.refusal.specs.Verdict.{Verdict}

-- the number of the refusal, then the low 32 bits of its detail
abbrev pub answer : Verdict → ℕ
answer v = number_of v * 2 ^ 32 + detail_of v % 2 ^ 32
