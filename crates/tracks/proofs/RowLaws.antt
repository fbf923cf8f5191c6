-- Rows of four words. Assumes nothing.
use mathlib.Core.Path.{◌≡◌}
use mathlib.Core.List.{List}
use Prim.Native.Nat.{ℕ, ◌+◌, ◌-◌, ◌*◌, ◌/◌, ◌<◌}
use native.Mathlib.Omega.{arith}
use lib.ListN.{length, take, drop, length-take, length-drop}

-- row i is whole
pub row-whole : (words : List ℕ) (i : ℕ) → i < length words / 4 → length (take (i * 4 + 4 - i * 4) (drop (i * 4) words)) ≡ 4
row-whole words i h = simp (length-take, length-drop) (omega arith)
