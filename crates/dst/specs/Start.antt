-- Where units start, by their sizes. Assumes nothing.
use Rattle.std.specs.Prelude.{ℕ, ◌+◌, List, [], ◌∷◌, take}

unfoldable pub sum : List ℕ → ℕ
sum [] = 0
sum (n ∷ ns) = n + sum ns

-- where the unit of position i starts: after the units before it
unfoldable pub start : List ℕ → ℕ → ℕ
start ss i = sum (take i ss)
