-- The table that markers are taken apart into: a row of four words for each, in the markers' order, for as many as it has rows.
-- Only contracts of private functions cite these; no promise of a public function does. Assumes nothing.
use Rattle.std.specs.Prelude.{ℕ, ◌+◌, ◌*◌, cond, List, [], ◌∷◌, ltb, set, get_or, replicate}
use Rattle.dsdiff.specs.declared.marker.Marker.{Marker}
use Rattle.dsdiff.specs.Marker.{row_of}

-- the table at the start
abbrev pub no_rows : List ℕ
no_rows = replicate 262_140 0

-- a table with a row's four words from a place on
abbrev pub with_row : List ℕ → ℕ → List ℕ → List ℕ
with_row t at row = set (set (set (set t at (get_or row 0 0)) (at + 1) (get_or row 1 0)) (at + 2) (get_or row 2 0)) (at + 3) (get_or row 3 0)

-- the table with m in row i, or as it is if there is no such row
abbrev pub stored : List ℕ → ℕ → Marker → List ℕ
stored t i m = cond (ltb i 65_535) (with_row t (i * 4) (row_of m)) t

-- the table with ms in the rows from i on
unfoldable pub filled : List ℕ → ℕ → List Marker → List ℕ
filled t i [] = t
filled t i (m ∷ ms) = filled (stored t i m) (i + 1) ms
