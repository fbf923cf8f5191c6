-- Bytes that a text of the file can't have: outside 0x20 to 0x7E and, under D2, also outside 0xA0 to 0xFF (31, 33). Assumes nothing.
use Rattle.std.specs.Prelude.{ℕ, Bool, not, List, length, get_or}
use Rattle.texts.specs.Text.{passes}
use Rattle.texts.specs.declared.text.TextRule.{TextRule}
use Rattle.refusal.specs.Below.{any}

unfoldable pub has_no_text : TextRule → List ℕ → Bool
has_no_text rule bytes = any (λ i. not (passes rule (get_or bytes i 0))) (length bytes)
