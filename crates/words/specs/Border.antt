-- THE BORDER OF THE WORDS: what is refused of the words themselves, before anything is made of them, so that a word that its field cannot hold, or that names nothing, is never taken
-- for another value. Each has the number of its field, and is tested whether or not the field is used. A switch is on if its word is not 0. Assumes nothing.
use Rattle.std.specs.Prelude.{ℕ, ◌+◌, Bool, not, List, [], ◌∷◌, eqb, ltb, length}
use Rattle.refusal.specs.Verdict.{Verdict, refuse_if, first_of, or_else}
use Rattle.refusal.specs.Below.{any}
use Rattle.refusal.specs.declared.verdict.Refusal.{Refusal}
use Rattle.refusal.specs.declared.verdict.Refusal.TheVariants as refused
use Rattle.single_words.specs.Word.{word_of}

-- how many words a build has
abbrev pub word_count : ℕ
word_count = 67

-- one of n words from word i on exceeds the most that there is
unfoldable pub exceeds : List ℕ → ℕ → ℕ → ℕ → Bool
exceeds w i n most = any (λ k. ltb most (word_of w (i + k))) n

-- and is refused
abbrev pub beyond : List ℕ → ℕ → ℕ → ℕ → Refusal → Verdict
beyond w i n most r = refuse_if (exceeds w i n most) r

-- fewer or more words (2); channels that no u8 holds (7); no layout (8); a source track that no u16 holds (13); a replacement that no u8 holds (24); channel numbers that
-- no u16 holds (26)
unfoldable pub field_faults : List ℕ → Verdict
field_faults w =
    first_of
    (refuse_if (not (eqb (length w) word_count)) refused.OutsidePool
    ∷ beyond w 2 1 255 refused.Channels
    ∷ beyond w 3 1 3 refused.ChannelsOfLayout
    ∷ beyond w 21 1 65_535 refused.NoSourceTrack
    ∷ beyond w 47 1 255 refused.Replacement
    ∷ beyond w 8 6 65_535 refused.ChannelNumberTooLarge
    ∷ [])

-- no name of PROP's order (28); no name of DIIN's order, no position of the switch of artist and title, or no source of theirs (30); no name of the local order (37)
unfoldable pub name_faults : List ℕ → Verdict
name_faults w =
    first_of
    (beyond w 52 5 4 refused.PropertyOrder
    ∷ beyond w 57 4 3 refused.InfoOrder
    ∷ beyond w 32 2 2 refused.InfoOrder
    ∷ beyond w 61 5 4 refused.LocalOrderRepeats
    ∷ [])

-- the first fault of the words
unfoldable pub words_fault : List ℕ → Verdict
words_fault w = or_else (field_faults w) (name_faults w)
