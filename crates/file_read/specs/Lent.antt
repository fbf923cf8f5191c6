-- What a read is lent, and the sound of the file that it knows of: zeros stand for what it does not need. Assumes nothing.
use Rattle.std.specs.Prelude.{ℕ, ◌*◌, Bool, ◌&&◌, List, eqb, length}
use Rattle.dst.specs.Frame.{frame_bytes, plain_bytes, dsd_sound}
use Rattle.dst.specs.Unit.{sound}
use Rattle.prop_fields.specs.declared.compression.Sound.{Sound}
use Rattle.prop_fields.specs.declared.compression.Sound.TheVariants.{Dsd, Dst}
use Rattle.sound_reads.specs.declared.place.Positions.{Positions}
use Rattle.sound_reads.specs.Positions.{number, between}
use Rattle.sound_reads.specs.Lent.{is_lent, frames_with, contents_with}
use Rattle.read_rules.specs.declared.format.SoundFormat.{SoundFormat}

module _ (f : SoundFormat) (lengths : List ℕ) (p : Positions) where
  -- whether the lengths, DST bytes and contents that are lent are in number those of the needed positions (43: "plain content for DSD or CRC, DST bytes for DST,
  -- otherwise empty")
  abbrev pub is_lent_by : Sound → List ℕ → List ℕ → List ℕ → Bool
  is_lent_by Dsd lent frames contents =
      (eqb (length lent) 0 && eqb (length frames) 0) && eqb (frame_bytes f.channels * number p) (length contents)
  is_lent_by Dst lent frames contents = is_lent (plain_bytes f.crc f.channels) (between p lengths) lent frames contents

  abbrev pub is_lent_for : List ℕ → List ℕ → List ℕ → Bool
  is_lent_for lent frames contents = is_lent_by f.sound lent frames contents

  -- the sound, with what is lent at the needed positions
  abbrev pub sound_by : Sound → List ℕ → List ℕ → List ℕ
  sound_by Dsd frames contents = dsd_sound (contents_with (frame_bytes f.channels) p f.positions contents)
  sound_by Dst frames contents = sound f.crc (frames_with (plain_bytes f.crc f.channels) p lengths frames contents)

  abbrev pub sound_with : List ℕ → List ℕ → List ℕ
  sound_with frames contents = sound_by f.sound frames contents
