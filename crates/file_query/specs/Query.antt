-- THE ANSWER OF A QUERY: 42, or the positions that a read needs (01: "a query answers the first and one past the last, counted from 0 at the range's first,
-- (0, 0) for none"). Assumes nothing.
use Rattle.std.specs.Prelude.{ℕ, List}
use Rattle.read_rules.specs.declared.format.SoundFormat.{SoundFormat}
use Rattle.read_rules.specs.Fault.{format_fault}
use Rattle.read_rules.specs.Needed.{needed}
use Rattle.read_answer.specs.Answer.{QueryAnswer}
use Rattle.read_answer.specs.Answer.{query_answer}

-- of a file whose header and trailer have so many bytes, for a read of `room` bytes from the file's byte `offset` on
unfoldable pub query_of : SoundFormat → List ℕ → ℕ → ℕ → ℕ → ℕ → QueryAnswer
query_of f lengths header trailer offset room = query_answer (format_fault f lengths header trailer) (needed f lengths header offset room)
