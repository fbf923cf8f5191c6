-- What the exported query and read of a whole file answer, and leave in what they are lent. Assumes nothing.
use Rattle.std.specs.Prelude.{◌≡◌, Bool, List, [], ◌∷◌, ℕ}
use Rattle.meanings.specs.Property.{sound_of}
use Rattle.read_rules.specs.declared.format.SoundFormat.{SoundFormat}
use Rattle.read_answer.specs.Answer.{QueryAnswer}
use Rattle.read_answer.specs.Answer.{ReadAnswer}
use Rattle.read_answer.specs.Answer.{query_number, query_values, read_number, read_value}
use Rattle.file_read.specs.Read.{Request, Reads}

-- the format of the sound
abbrev pub format_of : Bool → Bool → ℕ → ℕ → SoundFormat
format_of dst crc channels positions = record { sound = sound_of dst; crc = crc; channels = channels; positions = positions }

-- of an answer: 01's number, and the two values
pub record Queried (a : QueryAnswer) (values : List ℕ) (n : ℕ) : Type 0 where
  pub number : n ≡ query_number a
  pub both : values ≡ query_values a

-- of a read: what a read promises, of an answer with this number and value
pub record ReadAnswered (q : Request) (out last value : List ℕ) (n : ℕ) : Type 0 where
  pub answer : ReadAnswer
  pub promise : Reads q out last answer
  pub number : n ≡ read_number answer
  pub only : value ≡ read_value answer ∷ []
