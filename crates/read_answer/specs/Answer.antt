-- What a query and a read answer, by 01's numbers, and under a verdict. Assumes nothing.
use Rattle.std.specs.Prelude.{ℕ, List, [], ◌∷◌, Result, Ok, Err}
use Rattle.refusal.specs.declared.verdict.Refusal.{Refusal}
use Rattle.refusal.specs.Verdict.{Verdict, number_of, refusal_detail}
use Rattle.sound_reads.specs.declared.place.Positions.{Positions}

-- the positions that are needed, or the refusal; the bytes filled, or the refusal
abbrev pub QueryAnswer : Type 0
QueryAnswer = Result Positions Refusal

abbrev pub ReadAnswer : Type 0
ReadAnswer = Result ℕ Refusal

-- 01's number of an answer, 0 where nothing is refused, and the values that go with it: the first position and one past the last; the bytes filled; or
-- the detail
abbrev pub query_number : QueryAnswer → ℕ
query_number answer = number_of answer

abbrev pub query_values : QueryAnswer → List ℕ
query_values (Ok p) = p.first ∷ p.end ∷ []
query_values (Err r) = refusal_detail r ∷ 0 ∷ []

abbrev pub read_number : ReadAnswer → ℕ
read_number answer = number_of answer

abbrev pub read_value : ReadAnswer → ℕ
read_value (Ok count) = count
read_value (Err r) = refusal_detail r

-- the answer under a verdict
abbrev pub query_answer : Verdict → Positions → QueryAnswer
query_answer (Ok done) p = Ok p
query_answer (Err r) p = Err r

abbrev pub read_answer : Verdict → ℕ → ReadAnswer
read_answer (Ok done) count = Ok count
read_answer (Err r) count = Err r
