-- Which positions a read of a whole file needs (01: "It needs every position whose unit (DSTF with pad and DSTC, or a DSD frame) it touches"). Assumes nothing.
use Rattle.std.specs.Prelude.{ℕ, ◌-◌, List}
use Rattle.sound_reads.specs.declared.place.Positions.{Positions}
use Rattle.sound_reads.specs.Positions.{positions_for}
use Rattle.read_rules.specs.declared.format.SoundFormat.{SoundFormat}
use Rattle.read_rules.specs.Format.{unit_sizes}

-- Of a read of `room` bytes from the file's byte `offset` on, where the sound begins after `header` bytes: of the sound it has the bytes from offset - header on (from 0 on, if it
-- begins in the header), as many as are left of its room behind the header. (`needed_in_file` says the same by places in the file.)
unfoldable pub needed : SoundFormat → List ℕ → ℕ → ℕ → ℕ → Positions
needed f lengths header offset room = positions_for (unit_sizes f lengths) (offset - header) (room - (header - offset))
