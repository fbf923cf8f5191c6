-- Header and trailer around the sound, from what was written. Assumes nothing.
use mathlib.Core.Path.{◌≡◌}
use mathlib.Core.List.{List, ◌++◌}
use Prim.Native.Nat.{ℕ, ◌-◌, ◌*◌, ◌^◌, ◌<◌, min}
use Rattle.chunk.specs.Append.{moved, Appended}
use Rattle.chunk.specs.Number.{be}
use Rattle.chunk_names.specs.Name.{ascii}
use Rattle.dst.specs.Frame.{frame_bytes}
use Rattle.build_options.specs.Area.{area_positions}
use Rattle.build_options.specs.Inputs.{Inputs}
use Rattle.file_tree.specs.Parts.{parts}
use Rattle.file_tree.specs.Sized.{front_sized}
use Rattle.file_tree.specs.File.{given, back_of, sound_length}
use Rattle.file_tree.proofs.FileLaws.{front-sized}
use Rattle.header_trailer.specs.Fill.{FilledAround}

pub filled : (x : Inputs) (rest base : ℕ) {s size a b c : ℕ} {h h' t t' : List ℕ} → area_positions x.area * frame_bytes x.area.channels < 2 ^ 64
    → s ≡ min (sound_length x) (2 ^ 64 - 1) → size ≡ moved rest s → a ≡ 0
    → Appended h a (ascii "FRM8" ++ be 8 size ++ front_sized (parts x) s base (given x)) h' b → Appended t a (back_of x base) t' c
    → FilledAround x rest base h h' t t' s
filled x rest base {s} low sound e z header trailer = record {
  sound = sound;
  both = record {
    header = rw (e, z, front-sized (parts x) s base (given x) low sound) at header.buffer;
    trailer = rw z at trailer.buffer;
  };
}
