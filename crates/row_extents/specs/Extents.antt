-- 1: a text or a caller chunk is too long, or there are too many. 2: a stretch runs outside its pool; a row that is cut short is such a stretch. Assumes nothing.
use Rattle.std.specs.Prelude.{ℕ, ◌+◌, Bool, ◌||◌, List, ltb}
use Rattle.texts.specs.declared.extent.Extent.{Extent}
use Rattle.rows.specs.declared.row.Row.{Row}
use Rattle.rows.specs.Row.{extent_at, count_of_rows, cut_short}
use Rattle.refusal.specs.Below.{any}

-- an extent names more elements than it may
abbrev pub is_long : ℕ → Extent → Bool
is_long longest e = ltb longest e.length

-- an extent runs outside a pool of so many elements
abbrev pub is_outside : ℕ → Extent → Bool
is_outside pool e = ltb pool (e.start + e.length)

-- 1: more rows than there may be, or an extent that is too long
unfoldable pub too_large : Row → List ℕ → ℕ → ℕ → Bool
too_large kind words most longest =
    ltb most (count_of_rows kind words) || any (λ k. is_long longest (extent_at kind words k)) (count_of_rows kind words)

-- 2: the last row is cut short, or an extent runs outside its pool
unfoldable pub outside_pool : Row → List ℕ → ℕ → Bool
outside_pool kind words pool = cut_short kind words || any (λ k. is_outside pool (extent_at kind words k)) (count_of_rows kind words)
