-- A word of a list. Assumes nothing.
use Rattle.std.specs.Prelude.{ℕ, zero, suc, ◌+◌, ◌^◌, ◌%◌, Bool, not, List, [], ◌∷◌, eqb, get_or}
use Rattle.diin_texts.specs.DiinText.{Text}
use Rattle.meanings.specs.Diin.{given_text}

-- word i, 0 past the end
abbrev pub word_of : List ℕ → ℕ → ℕ
word_of words i = get_or words i 0

-- its low byte
abbrev pub low_byte : List ℕ → ℕ → ℕ
low_byte words i = word_of words i % 2 ^ 8

-- its low 16 bits
abbrev pub half_of : List ℕ → ℕ → ℕ
half_of words i = word_of words i % 2 ^ 16

-- the low bytes of n words from word i on
abbrev pub low_bytes : List ℕ → ℕ → ℕ → List ℕ
low_bytes words i zero = []
low_bytes words i (suc n) = low_byte words i ∷ low_bytes words (suc i) n

-- a switch is on if its word is not 0
unfoldable pub is_set : List ℕ → ℕ → Bool
is_set words i = not (eqb (word_of words i) 0)

-- a text of three words from word i on
unfoldable pub text_at : List ℕ → ℕ → Text
text_at words i = given_text (word_of words i ∷ word_of words (i + 1) ∷ word_of words (i + 2) ∷ [])
