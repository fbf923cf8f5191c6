-- What a query or a read is told of the sound (01: "A read or query is given kind, CRC switch, channels, the lengths (DSD: the number of positions)"). Assumes
-- nothing.
use Rattle.std.specs.Prelude.{ℕ, List, length, replicate}
use Rattle.dst.specs.Frame.{frame_bytes}
use Rattle.dst.specs.Unit.{sizes}
use Rattle.prop_fields.specs.declared.compression.Sound.{Sound}
use Rattle.prop_fields.specs.declared.compression.Sound.TheVariants.{Dsd, Dst}
use Rattle.read_rules.specs.declared.format.SoundFormat.{SoundFormat}

module _ (f : SoundFormat) (lengths : List ℕ) where
  -- the number of positions: DSD is told it, DST has one for each length
  abbrev pub count_by : Sound → ℕ
  count_by Dsd = f.positions
  count_by Dst = length lengths

  abbrev pub position_count : ℕ
  position_count = count_by f.sound

  -- the sizes of the positions' units: a DSD frame, or DSTF with pad and DSTC
  abbrev pub sizes_by : Sound → List ℕ
  sizes_by Dsd = replicate f.positions (frame_bytes f.channels)
  sizes_by Dst = sizes f.crc lengths

  abbrev pub unit_sizes : List ℕ
  unit_sizes = sizes_by f.sound
