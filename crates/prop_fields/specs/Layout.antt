-- The channels' names and the speaker code (01: "Names: SLFT SRGT; MLFT MRGT "C   " "LS  " "RS  "; MLFT MRGT "C   " "LFE " "LS  " "RS  "; unspecified: C and
-- three digits, by default 000 upward. LSCO is 0, 3, 4; unspecified 65,535"). Assumes nothing.
use Rattle.std.specs.Prelude.{ℕ, ◌+◌, ◌/◌, ◌%◌, min, Option, None, Some, List, [], ◌∷◌, ◌++◌, map, take, replicate}
use Rattle.chunk_names.specs.Name.{Name, ascii, stereo, three_two, five_point_one}
use Rattle.prop_fields.specs.declared.layout.Layout.{Layout}
use Rattle.prop_fields.specs.declared.layout.Layout.TheVariants.{Stereo, ThreeTwo, FivePointOne, Unspecified}
use Rattle.prop_fields.specs.declared.layout.ChannelNumbers.{ChannelNumbers}

-- the numbers of an unspecified layout's channels, by default 0 upward
abbrev pub numbers_of : Option ChannelNumbers → List ℕ
numbers_of (Some n) = n.numbers
numbers_of None = 0 ∷ 1 ∷ 2 ∷ 3 ∷ 4 ∷ 5 ∷ []

-- the last decimal digit
abbrev pub digit : ℕ → ℕ
digit n = 0x30 + n % 10

-- C and three digits; of a number above 999, the last three
abbrev pub channel_name : ℕ → Name
channel_name n = ascii "C" ++ (digit (n / 100) ∷ digit (n / 10) ∷ digit n ∷ [])

-- how many channels a layout names; an unspecified one at most six
abbrev pub channel_count : Layout → ℕ → ℕ
channel_count Stereo channels = 2
channel_count ThreeTwo channels = 5
channel_count FivePointOne channels = 6
channel_count Unspecified channels = min channels 6

-- n names that no channel has
abbrev pub unused : ℕ → List Name
unused n = replicate n (0 ∷ 0 ∷ 0 ∷ 0 ∷ [])

-- six names, of which the first are a layout's
abbrev pub six_names : Layout → Option ChannelNumbers → List Name
six_names Stereo n = stereo ++ unused 4
six_names ThreeTwo n = three_two ++ unused 1
six_names FivePointOne n = five_point_one
six_names Unspecified n = map channel_name (numbers_of n)

-- the names of the channels
abbrev pub channel_names : Layout → ℕ → Option ChannelNumbers → List Name
channel_names layout channels n = take (channel_count layout channels) (six_names layout n)

-- what LSCO tells of a layout
abbrev pub speaker_code : Layout → ℕ
speaker_code Stereo = 0
speaker_code ThreeTwo = 3
speaker_code FivePointOne = 4
speaker_code Unspecified = 65_535
