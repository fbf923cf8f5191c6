-- Markers that are lent as records, and their rows of four words. Assumes nothing.
use Rattle.std.specs.Prelude.{ℕ, ◌+◌, ◌*◌, ◌^◌, Bool, cond}
use mathlib.Core.List.{List, [], ◌∷◌, flat_map}
use Rattle.markers.specs.Marker.{kind_number}
use Rattle.dsdiff.specs.declared.marker.Marker.{Marker}

-- frame, kind · 65,536 + flags, text start, text length
abbrev pub row_of : Marker → List ℕ
row_of m = m.frame ∷ (kind_number m.kind * 2 ^ 16 + m.flags) ∷ m.text.start ∷ m.text.length ∷ []

unfoldable pub rows_of : List Marker → List ℕ
rows_of ms = flat_map row_of ms

-- the markers that a build looks at: none if they are not wanted
abbrev pub looked_at : Bool → List Marker → List ℕ
looked_at custom ms = cond custom (rows_of ms) []
