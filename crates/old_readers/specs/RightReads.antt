-- NO READ OF AN ACCEPTED BUILD IS REFUSED that was given what the build was given and made, and lent just what it needs of frames of the given lengths. Assumes nothing.
use Rattle.std.specs.Prelude.{◌≡◌, List, [], ℕ, Ok}
use Rattle.dst.specs.Frame.{Frame}
use Rattle.dst.specs.Unit.{lengths}
use Rattle.prop_fields.specs.declared.compression.Sound.{Sound}
use Rattle.prop_fields.specs.declared.compression.Sound.TheVariants.{Dsd, Dst}
use Rattle.sound_reads.specs.Positions.{between}
use Rattle.file_read.specs.Read.{Request, needed_for, read_verdict}
use Rattle.old_readers.specs.Premises.{AcceptedBuild, Recorded, WasGiven}

-- the lent lengths are those of the needed frames; of DSD there are none, nor DST bytes
abbrev pub LentLengths : Sound → List Frame → Request → ℕ → Type 0
LentLengths Dsd fs q room = (q.lent ≡ []) × (q.frames ≡ [])
LentLengths Dst fs q room = q.lent ≡ lengths (between (needed_for q room) fs)

abbrev pub EveryRightRead : Type 0
EveryRightRead = (b : AcceptedBuild) (fs : List Frame) → Recorded b.inputs fs → (q : Request) (room : ℕ) → WasGiven b fs q room
    → LentLengths b.inputs.area.sound fs q room → read_verdict q room ≡ Ok tt
