-- The laws of the channels' names. Assumes nothing.
use mathlib.Core.Path.{◌≡◌, sym, ◌∙◌, ap}
use mathlib.Core.List.{List, [], ◌∷◌, map, flat_map}
use Prim.Native.Nat.{ℕ, zero, suc, ◌*◌, ◌≤◌, min}
use native.Mathlib.Omega.{arith}
use lib.ListN.{length, get_or, take, drop_of_length-le}
use lib.Seq.{drop-cons}
use Rattle.chunk_names.specs.Name.{Name}
use Rattle.prop_fields.specs.Layout.{numbers_of, channel_name, channel_count, channel_names}
use Rattle.prop_fields.specs.declared.layout.Layout.{Layout}
use Rattle.prop_fields.specs.declared.layout.Layout.TheVariants.{Stereo, ThreeTwo, FivePointOne, Unspecified}
use Rattle.prop_fields.specs.declared.layout.ChannelNumbers.{ChannelNumbers}
use Rattle.std.specs.Prelude.{Option}

-- a list of six, element by element
six : (l : List ℕ) → length l ≡ 6 → l ≡ get_or l 0 0 ∷ get_or l 1 0 ∷ get_or l 2 0 ∷ get_or l 3 0 ∷ get_or l 4 0 ∷ get_or l 5 0 ∷ []
six l h =
    drop-cons l 0 0 (omega arith)
    ∙ rw (
      drop-cons l 1 0 (omega arith),
      drop-cons l 2 0 (omega arith),
      drop-cons l 3 0 (omega arith),
      drop-cons l 4 0 (omega arith),
      drop-cons l 5 0 (omega arith),
      drop_of_length-le l {i = 6} (omega arith),
    )

-- the names of six numbers, name by name
pub six_names_lem : (l : List ℕ) {a b c d e f : Name} → length l ≡ 6
    → a ≡ channel_name (get_or l 0 0) → b ≡ channel_name (get_or l 1 0) → c ≡ channel_name (get_or l 2 0) → d ≡ channel_name (get_or l 3 0)
    → e ≡ channel_name (get_or l 4 0) → f ≡ channel_name (get_or l 5 0) → a ∷ b ∷ c ∷ d ∷ e ∷ f ∷ [] ≡ map channel_name l
six_names_lem l h a b c d e f = rw (a, b, c, d, e, f) (sym (ap (map channel_name) (six l h)))

pub channels-few : (layout : Layout) (channels : ℕ) → channel_count layout channels ≤ 6
channels-few Stereo channels = omega arith
channels-few ThreeTwo channels = omega arith
channels-few FivePointOne channels = omega arith
channels-few Unspecified channels = omega arith

-- a name has four bytes
four_each : (k : ℕ) (l : List ℕ) → length (flat_map (λ (name : Name). name) (take k (map channel_name l))) ≤ 4 * k
unfolding flat_map
four_each zero l = omega arith
four_each (suc k) [] = omega arith
four_each (suc k) (n ∷ l) = omega (arith, four_each k l)

pub names_short : (layout : Layout) (channels : ℕ) (n : Option ChannelNumbers) → length (flat_map (λ (name : Name). name) (channel_names layout channels n)) ≤ 24
unfolding flat_map
names_short Stereo channels n = omega arith
names_short ThreeTwo channels n = omega arith
names_short FivePointOne channels n = omega arith
names_short Unspecified channels n = omega (arith, four_each (min channels 6) (numbers_of n))
