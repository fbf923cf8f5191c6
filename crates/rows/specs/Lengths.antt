-- 10: "A length isn't 1 to 65,536". Assumes nothing.
use Rattle.std.specs.Prelude.{ℕ, Bool, ◌||◌, List, ltb, length, get_or}
use Rattle.refusal.specs.Below.{any}

-- the bytes of a DST frame are at most this many
abbrev pub longest_frame : ℕ
longest_frame = 65_536

abbrev pub length_wrong : ℕ → Bool
length_wrong l = ltb l 1 || ltb longest_frame l

unfoldable pub lengths_wrong : List ℕ → Bool
lengths_wrong lengths = any (λ i. length_wrong (get_or lengths i 0)) (length lengths)
