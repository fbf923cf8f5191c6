-- Markers that are given, one row more at a time. Assumes nothing.
use mathlib.Core.Path.{◌≡◌, sym}
use mathlib.Core.List.{List, [], ◌∷◌, ◌++◌}
use Prim.Native.Nat.{ℕ, suc, ◌/◌, ◌<◌}
use native.Mathlib.Omega.{arith}
use lib.ListN.{length, take, drop, length-append}
use lib.Seq.{take-append_seam, drop-append_seam}
use Rattle.chunk.specs.Rows.{first_rows, rows}
use Rattle.markers.specs.Custom.{custom_of, customs}

-- the first row, and the others
pub customs_next : (row rest : List ℕ) → length row ≡ 4 → customs (row ++ rest) ≡ custom_of row ∷ customs rest
unfolding customs rows first_rows
customs_next row rest four =
    let n : length (row ++ rest) / 4 ≡ suc (length rest / 4) = rw length-append (omega arith) in
    let front : take 4 (row ++ rest) ≡ row = rw (sym four) (take-append_seam row rest) in
    let back : drop 4 (row ++ rest) ≡ rest = rw (sym four) (drop-append_seam row rest) in
    rw (n, front, back)

-- words that make no row
pub customs_none : (rest : List ℕ) → length rest < 4 → customs rest ≡ []
unfolding customs rows first_rows
customs_none rest few = let n : length rest / 4 ≡ 0 = omega arith in rw n
