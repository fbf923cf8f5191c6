-- Steps of a walk over units: places inside them.
-- Only contracts of private functions cite these; no promise of a public function does. Assumes nothing.
use Rattle.std.specs.Prelude.{ℕ, ◌+◌, ◌<◌, ◌≤◌, List, length, get_or}
use Rattle.sound_reads.specs.declared.place.Place.{Place}
use Rattle.dst.specs.Start.{start}

-- a place, from the sound's first byte on
abbrev pub byte_at : List ℕ → Place → ℕ
byte_at ss a = start ss a.position + a.within

-- the place lies within the unit of its position, if there is that position
pub record Inside (ss : List ℕ) (a : Place) : Type 0 where
  pub known : a.position ≤ length ss
  pub short : a.position < length ss → a.within < get_or ss a.position 0
