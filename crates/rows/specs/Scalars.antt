-- 3: "A text value is no Unicode scalar". Assumes nothing.
use Rattle.std.specs.Prelude.{ℕ, Bool, ◌&&◌, ◌||◌, List, leb, ltb, length, get_or}
use Rattle.texts.specs.Extent.{part}
use Rattle.rows.specs.declared.row.Row.{Row}
use Rattle.rows.specs.Row.{count_of_rows, extent_at}
use Rattle.refusal.specs.Below.{any}

-- Unicode scalars are 0 to 0x10FFFF without the surrogates
abbrev pub is_no_scalar : ℕ → Bool
is_no_scalar x = (leb 0xD800 x && leb x 0xDFFF) || ltb 0x10FFFF x

unfoldable pub has_no_scalar : List ℕ → Bool
has_no_scalar values = any (λ i. is_no_scalar (get_or values i 0)) (length values)

-- 3, of the texts of a pool that rows name
unfoldable pub no_scalars : Row → List ℕ → List ℕ → Bool
no_scalars kind words pool = any (λ k. has_no_scalar (part pool (extent_at kind words k))) (count_of_rows kind words)
