-- Which positions a read needs, by places in the file: a position is needed if the bytes from `offset` on, `room` of them, and the bytes of its unit, which begins after the header
-- and the units before it, have one in common. Assumes nothing.
use mathlib.Core.Path.{◌≡◌, ap, fun_ext}
use mathlib.Core.Bool.{Bool}
use mathlib.Core.List.{List}
use Prim.Native.Nat.{ℕ, suc, ◌+◌, ◌-◌, min, max}
use native.Mathlib.Omega.{arith}
use Rattle.std.proofs.lemmas.Bool.Decides.{nat_tests}
use lib.Dec.{ltb}
use lib.ListN.{length}
use Rattle.dst.specs.Start.{start}
use Rattle.sound_reads.specs.Positions.{touched, range, positions_for}
use Rattle.read_rules.specs.declared.format.SoundFormat.{SoundFormat}
use Rattle.read_rules.specs.Format.{unit_sizes}
use Rattle.read_rules.specs.Needed.{needed}

module _ (ss : List ℕ) (header offset room i : ℕ) where
  pub touched_in_file : touched ss (offset - header) (room - (header - offset)) i
      ≡ ltb (max (header + start ss i) offset) (min (header + start ss (suc i)) (offset + room))
  unfolding touched
  touched_in_file = grind (arith, nat_tests)

-- So what a read needs is from the first to the last of the positions whose units' bytes and the read's, by their places in the file, have one in common.
pub needed_in_file : (f : SoundFormat) (lengths : List ℕ) (header offset room : ℕ)
    → needed f lengths header offset room
    ≡ range (λ i. ltb (max (header + start (unit_sizes f lengths) i) offset) (min (header + start (unit_sizes f lengths) (suc i)) (offset + room))) (length (unit_sizes f lengths))
unfolding needed positions_for
needed_in_file f lengths header offset room =
    ap (λ (t : ℕ → Bool). range t (length (unit_sizes f lengths))) (fun_ext (touched_in_file (unit_sizes f lengths) header offset room))
