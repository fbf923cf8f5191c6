-- What a build answers, by 01's numbers. Assumes nothing.
use Rattle.std.specs.Prelude.{ℕ, List, [], ◌∷◌, Result, Ok, Err}
use Rattle.refusal.specs.Verdict.{number_of, refusal_detail}
use Rattle.refusal.specs.declared.verdict.Refusal.{Refusal}
use Rattle.build_answer.specs.declared.answer.Built.{Built}

-- the lengths of header, sound and trailer, or the refusal
abbrev pub Answer : Type 0
Answer = Result Built Refusal

-- 01's number of an answer; 0 stands for built
abbrev pub build_number : Answer → ℕ
build_number r = number_of r

-- the values that go with it: the lengths of header, sound and trailer, or the detail
abbrev pub build_values : Answer → List ℕ
build_values (Ok built) = built.header ∷ built.sound ∷ built.trailer ∷ []
build_values (Err r) = refusal_detail r ∷ 0 ∷ 0 ∷ []
