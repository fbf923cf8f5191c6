-- Texts, worked out by the definitions: converted bytes by each rule. Assumes nothing.
use mathlib.Core.Path.{◌≡◌, refl}
use mathlib.Core.Bool.{Bool, false}
use mathlib.Core.List.{List, [], ◌∷◌, ◌++◌, flat_map}
use Prim.Native.Nat.{ℕ}
use Rattle.chunk_names.specs.Name.{ascii}
use Rattle.texts.specs.Text.{printable, latin1, passes, substitute, text_byte, text_bytes}
use Rattle.texts.specs.declared.text.TextRule.TheVariants.{Replace, Remove, D2}
use Rattle.texts.specs.declared.text.TextOptions.{TextOptions}

-- values at each limit
edges : List ℕ
edges = 0x1F ∷ 0x20 ∷ 0x7E ∷ 0x7F ∷ 0x80 ∷ 0x9F ∷ 0xA0 ∷ 0xFF ∷ 0x100 ∷ 0x10FFFF ∷ []

replaced : text_bytes (Replace 63) edges ≡ 63 ∷ 0x20 ∷ 0x7E ∷ 63 ∷ 63 ∷ 63 ∷ 63 ∷ 63 ∷ 63 ∷ 63 ∷ []
unfolding edges text_bytes text_byte passes substitute printable flat_map
replaced = refl

removed : text_bytes Remove edges ≡ 0x20 ∷ 0x7E ∷ []
unfolding edges text_bytes text_byte passes substitute printable flat_map
removed = refl

under_d2 : text_bytes D2 edges ≡ 0x20 ∷ 0x7E ∷ 0xA0 ∷ 0xFF ∷ []
unfolding edges text_bytes text_byte passes substitute printable latin1 flat_map
under_d2 = refl

-- a pool with a title of three values, one of which vanishes, a note, and a text of which nothing is left
unfoldable pub pool : List ℕ
pool = ascii "Om" ++ (0x7F ∷ []) ++ ascii "odd" ++ (0x1F ∷ [])

abbrev pub options : Bool → TextOptions
options padCounted = record { rule = Remove; empty_text = false; text_pad_counted = padCounted }
