-- 42: "Read or query: channels or a length as in 7 or 10, over 1,151,999 positions, or header or trailer over 2^40 bytes". Assumes nothing.
use Rattle.std.specs.Prelude.{ℕ, ◌^◌, Bool, false, ◌||◌, List, ltb}
use Rattle.rows.specs.Lengths.{lengths_wrong}
use Rattle.refusal.specs.Verdict.{Verdict, refuse_if}
use Rattle.refusal.specs.declared.verdict.Refusal.TheVariants.{Format}
use Rattle.prop_fields.specs.declared.compression.Sound.{Sound}
use Rattle.prop_fields.specs.declared.compression.Sound.TheVariants.{Dsd, Dst}
use Rattle.read_rules.specs.declared.format.SoundFormat.{SoundFormat}
use Rattle.read_rules.specs.Format.{position_count}

abbrev pub most_positions : ℕ
most_positions = 1_151_999

-- the most bytes of a header or a trailer
abbrev pub longest_side : ℕ
longest_side = 2 ^ 40

abbrev pub channels_wrong : ℕ → Bool
channels_wrong channels = ltb channels 1 || ltb 6 channels

-- whether a length is wrong; DSD has none
abbrev pub lengths_wrong_by : Sound → List ℕ → Bool
lengths_wrong_by Dsd lengths = false
lengths_wrong_by Dst lengths = lengths_wrong lengths

abbrev pub bad_length : SoundFormat → List ℕ → Bool
bad_length f lengths = lengths_wrong_by f.sound lengths

-- 42, of a header and a trailer of so many bytes
unfoldable pub format_fault : SoundFormat → List ℕ → ℕ → ℕ → Verdict
format_fault f lengths header trailer =
    refuse_if
    ((((channels_wrong f.channels || bad_length f lengths) || ltb most_positions (position_count f lengths)) || ltb longest_side header)
    || ltb longest_side trailer)
    Format
