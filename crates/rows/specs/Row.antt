-- Rows of words, by what they tell. Assumes nothing.
use Rattle.std.specs.Prelude.{ℕ, ◌-◌, ◌*◌, ◌/◌, ◌%◌, Bool, not, List, eqb, length, take, drop, get_or}
use Rattle.texts.specs.declared.extent.Extent.{Extent}
use Rattle.rows.specs.declared.row.Row.{Row}
use Rattle.rows.specs.declared.row.Row.TheVariants.{Text, Caller, Track, Marker, Comment}

-- how many words a row has
abbrev pub width : Row → ℕ
width Text = 2
width Caller = 3
width Track = 4
width Marker = 4
width Comment = 9

-- row k, of rows of w words
abbrev pub row_at : ℕ → List ℕ → ℕ → List ℕ
row_at w words k = take w (drop (k * w) words)

-- the extent that a row of w words names: its last two words
abbrev pub extent_of : ℕ → List ℕ → Extent
extent_of w row = record { start = get_or row (w - 2) 0; length = get_or row (w - 1) 0 }

-- the extent that row k names
abbrev pub extent_at : Row → List ℕ → ℕ → Extent
extent_at kind words k = extent_of (width kind) (row_at (width kind) words k)

-- the whole rows
abbrev pub count_of_rows : Row → List ℕ → ℕ
count_of_rows kind words = length words / width kind

-- whether words are left that make no whole row
abbrev pub cut_short : Row → List ℕ → Bool
cut_short kind words = not (eqb (length words % width kind) 0)
