-- The room in the buffers of header and trailer (40: "Header buffer short; detail, the length needed". 41: "Trailer buffer short; likewise").
-- Assumes nothing.
use Rattle.std.specs.Prelude.{ℕ, [], ◌∷◌, ltb}
use Rattle.refusal.specs.Verdict.{Verdict, refuse_if, first_of}
use Rattle.refusal.specs.declared.verdict.Refusal.{Refusal}
use Rattle.refusal.specs.declared.verdict.Refusal.TheVariants.{HeaderRoom, TrailerRoom}

-- a buffer has less room than is needed; the detail is the length needed
abbrev pub short : (ℕ → Refusal) → ℕ → ℕ → Verdict
short refusal needed room = refuse_if (ltb room needed) (refusal needed)

-- 40, then 41, by the lengths needed and the lengths of the buffers
unfoldable pub room_faults : ℕ → ℕ → ℕ → ℕ → Verdict
room_faults header trailer h t = first_of (short (λ needed. HeaderRoom needed) header h ∷ short (λ needed. TrailerRoom needed) trailer t ∷ [])
