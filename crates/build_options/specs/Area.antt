-- The area that is written, and its range. Assumes nothing.
use Rattle.std.specs.Prelude.{ℕ, ◌-◌, Bool, true, false}
use Rattle.prop_fields.specs.declared.compression.Sound.{Sound}
use Rattle.prop_fields.specs.declared.compression.Sound.TheVariants.{Dsd, Dst}
use Rattle.build_options.specs.declared.area.Area.{Area}
use Rattle.prop_fields.specs.declared.layout.Layout.{Layout}
use Rattle.prop_fields.specs.declared.layout.Layout.TheVariants.{Stereo, ThreeTwo, FivePointOne, Unspecified}

-- the positions of the range, none if it is turned round
abbrev pub area_positions : Area → ℕ
area_positions a = a.end - a.first

abbrev pub is_dst : Sound → Bool
is_dst Dsd = false
is_dst Dst = true

abbrev pub unspecified : Layout → Bool
unspecified Stereo = false
unspecified ThreeTwo = false
unspecified FivePointOne = false
unspecified Unspecified = true
