-- Stamps as words, and what the exported window answers and leaves in what it is lent. Assumes nothing.
use Rattle.std.specs.Prelude.{◌≡◌, List, [], ◌∷◌, ℕ, get_or}
use Rattle.calendar.specs.declared.date.Stamp.{Stamp}
use Rattle.calendar.specs.Window.{Falls, falls_number, falls_value}

-- the stamp of five words
unfoldable pub stamp_of_words : List ℕ → Stamp
stamp_of_words words = record { year = get_or words 0 0; month = get_or words 1 0; day = get_or words 2 0; hour = get_or words 3 0; minutes = get_or words 4 0 }

-- of an answer: the refusal's number, and the value
pub record FallsTold (a : Falls) (value : List ℕ) (n : ℕ) : Type 0 where
  pub number : n ≡ falls_number a
  pub only : value ≡ falls_value a ∷ []
