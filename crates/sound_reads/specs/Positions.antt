-- Which positions a read needs (01: "It needs every position whose unit (DSTF with pad and DSTC, or a DSD frame) it touches; a query answers the
-- first and one past the last, counted from 0 at the range's first, (0, 0) for none"). Assumes nothing.
use Rattle.std.specs.Prelude.{ℕ, zero, suc, ◌+◌, ◌-◌, min, max, Bool, cond, List, ltb, length}
use Rattle.std.proofs.Math.Seq.{slice}
use Rattle.sound_reads.specs.declared.place.Positions.{Positions}
use Rattle.dst.specs.Start.{start}
use Rattle.sound_reads.specs.Place.{first_where}

-- whether so many bytes from a place on have one of the unit of position i
unfoldable pub touched : List ℕ → ℕ → ℕ → ℕ → Bool
touched ss from count i = ltb (max (start ss i) from) (min (start ss (suc i)) (from + count))

-- one past the last position below n that passes a test, 0 if none does
unfoldable pub past_last : (ℕ → Bool) → ℕ → ℕ
past_last p zero = 0
past_last p (suc n) = cond (p n) (suc n) (past_last p n)

-- the positions below n from the first to the last that pass a test
unfoldable pub range : (ℕ → Bool) → ℕ → Positions
range p n = record { first = cond (ltb 0 (past_last p n)) (first_where p n) 0; end = past_last p n }

-- the positions that a read of so many bytes from a place of the sound on needs, by the units' sizes
unfoldable pub positions_for : List ℕ → ℕ → ℕ → Positions
positions_for ss from count = range (touched ss from count) (length ss)

-- how many positions
abbrev pub number : Positions → ℕ
number p = p.end - p.first

-- what a list has for positions
abbrev pub between : {A : Type 0} → Positions → List A → List A
between p l = slice p.first p.end l
