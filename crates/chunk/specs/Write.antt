-- What a writer's closure appends. Assumes nothing.
use Rattle.std.specs.Prelude.{List, ℕ}
use denote.Ref.{MutBor}
use Rattle.chunk.specs.Append.{Appended}
use Rattle.chunk.specs.declared.cursor.Cursor.{Cursor}

-- at the front of any buffer it appends these bytes
abbrev pub Writes : (Cursor → MutBor (List ℕ) → Cursor → MutBor (List ℕ) → Type 0) → List ℕ → Type 0
Writes post content = (c : Cursor) (p q : MutBor (List ℕ)) (r : Cursor) → post c p r q → Appended p.now c.at content q.now r.at
