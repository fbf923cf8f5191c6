-- The caller's chunks, row by row. Assumes nothing.
use mathlib.Core.Path.{◌≡◌, sym, ◌∙◌}
use mathlib.Core.List.{List, [], ◌∷◌, ◌++◌}
use Prim.Native.Nat.{ℕ, suc, ◌+◌, ◌*◌, ◌/◌, ◌≤◌, ◌<◌}
use native.Mathlib.Omega.{arith}
use lib.ListN.{length, take, drop, length-append}
use lib.Seq.{take_all, take-append_seam, drop-append_seam}
use Rattle.chunk.specs.Rows.{first_rows, rows}
use Rattle.tree.specs.Tree.{bytes, each}
use Rattle.chunk.proofs.RowsLaws.{length-rows, get_rows}
use Rattle.tree.proofs.TreeLaws.{bytes-each-next, bytes-each-append, bytes-each-one}
use Rattle.caller_chunks.specs.Caller.{caller_chunk, caller_chunks}

-- the chunks of the first i rows
abbrev pub first_chunks : List ℕ → List ℕ → ℕ → List ℕ
first_chunks raw words i = bytes (each (caller_chunk raw) (take i (rows 3 words)))

pub callers-next : (raw words : List ℕ) (i : ℕ) → i < length words / 3
    → first_chunks raw words (i + 1) ≡ first_chunks raw words i ++ bytes (caller_chunk raw (take 3 (drop (i * 3) words)))
callers-next raw words i h =
    rw (bytes-each-next (caller_chunk raw) (rows 3 words) i [] (omega (arith, length-rows 3 words)), get_rows 3 i words h)

pub callers_all : (raw words : List ℕ) (i : ℕ) → length words / 3 ≤ i → first_chunks raw words i ≡ bytes (caller_chunks raw words)
unfolding caller_chunks
callers_all raw words i h = rw (take_all i (rows 3 words) (omega (arith, length-rows 3 words)))

-- the first row, and the others; words that make no row
pub callers_front : (raw row rest : List ℕ) → length row ≡ 3 → bytes (caller_chunks raw (row ++ rest)) ≡ bytes (caller_chunk raw row) ++ bytes (caller_chunks raw rest)
unfolding caller_chunks rows first_rows
callers_front raw row rest three =
    let n : length (row ++ rest) / 3 ≡ suc (length rest / 3) = rw length-append (omega arith) in
    let front : take 3 (row ++ rest) ≡ row = rw (sym three) (take-append_seam row rest) in
    let back : drop 3 (row ++ rest) ≡ rest = rw (sym three) (drop-append_seam row rest) in
    rw (n, front, back) (bytes-each-append (caller_chunk raw) (row ∷ []) (rows 3 rest) ∙ rw bytes-each-one)

pub callers_none : (raw rest : List ℕ) → length rest < 3 → bytes (caller_chunks raw rest) ≡ []
unfolding caller_chunks rows first_rows bytes each
callers_none raw rest few = let n : length rest / 3 ≡ 0 = omega arith in rw n
