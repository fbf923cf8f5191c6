-- Text as bytes (01: "Values 0x20 to 0x7E pass; others become the replacement byte or vanish. Under D2, 0x20 to 0x7E and 0xA0 to 0xFF pass and
-- others vanish"). Assumes nothing.
use Rattle.std.specs.Prelude.{ℕ, Bool, cond, not, ◌&&◌, ◌||◌, leb, eqb}
use mathlib.Core.List.{List, [], ◌∷◌, flat_map}
use Rattle.chunk.specs.Chunk.{pad}
use Rattle.texts.specs.declared.text.TextRule.{TextRule}
use Rattle.texts.specs.declared.text.TextRule.TheVariants.{Replace, Remove, D2}
use Rattle.texts.specs.declared.text.TextOptions.{TextOptions}

-- the values that are text bytes
unfoldable pub printable : ℕ → Bool
printable c = leb 0x20 c && leb c 0x7E

-- the values that pass under D2
unfoldable pub latin1 : ℕ → Bool
latin1 c = printable c || (leb 0xA0 c && leb c 0xFF)

-- the values that are written as themselves
unfoldable pub passes : TextRule → ℕ → Bool
passes (Replace b) c = printable c
passes Remove c = printable c
passes D2 c = latin1 c

-- what stands for a value that does not pass
unfoldable pub substitute : TextRule → List ℕ
substitute (Replace b) = b ∷ []
substitute Remove = []
substitute D2 = []

-- what a value is written as: one byte or none
unfoldable pub text_byte : TextRule → ℕ → List ℕ
text_byte rule c = cond (passes rule c) (c ∷ []) (substitute rule)

-- what a text is written as
unfoldable pub text_bytes : TextRule → List ℕ → List ℕ
text_bytes rule text = flat_map (text_byte rule) text

-- whether a text of so many bytes is written (01: "Empty converted texts are skipped unless empty text is on")
unfoldable pub is_written : TextOptions → ℕ → Bool
is_written o count = o.empty_text || not (eqb count 0)

-- the pad after a text of so many bytes, if it is counted: inside the chunk's size (01: "the pad inside the size if pad-counted")
unfoldable pub text_pad : TextOptions → ℕ → List ℕ
text_pad o count = cond o.text_pad_counted (pad count) []
