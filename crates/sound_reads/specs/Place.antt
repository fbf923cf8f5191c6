-- Places in sound that is made of units, one for each position, by the units' sizes. Assumes nothing.
use Rattle.std.specs.Prelude.{ℕ, zero, suc, ◌-◌, Bool, cond, List, ltb, length}
use Rattle.sound_reads.specs.declared.place.Place.{Place}
use Rattle.dst.specs.Start.{start}

-- the first position below n that passes a test, n if none does
unfoldable pub first_where : (ℕ → Bool) → ℕ → ℕ
first_where p zero = 0
first_where p (suc n) = cond (p 0) 0 (suc (first_where (λ i. p (suc i)) n))

-- the position whose unit has the byte at a place: the first whose unit ends after it
unfoldable pub position_at : List ℕ → ℕ → ℕ
position_at ss place = first_where (λ i. ltb place (start ss (suc i))) (length ss)

-- that position, and the bytes of its unit before the place
unfoldable pub place_of : List ℕ → ℕ → Place
place_of ss place = record { position = position_at ss place; within = place - start ss (position_at ss place) }
