-- The sound chunk is its head and the sound. Assumes nothing.
use mathlib.Core.Path.{◌≡◌, sym, ◌∙◌}
use mathlib.Core.Bool.{Bool}
use mathlib.Core.List.{List, [], ◌∷◌, ◌++◌, map, flat_map, append-nil}
use Prim.Native.Nat.{ℕ, zero, suc, ◌+◌, ◌-◌, ◌*◌, ◌%◌, ◌^◌, ◌<◌, min}
use native.Mathlib.Nat.{mul_assoc, mul_comm, zero-mul, suc-mul, add_comm}
use native.Mathlib.Omega.{arith}
use lib.ListN.{length, replicate, length-append}
use Rattle.chunk_names.specs.Name.{ascii}
use Rattle.chunk.proofs.NumberLaws.{length-be}
use Rattle.tree.specs.Tree.{stop, bytes}
use Rattle.tree.proofs.TreeLaws.{bytes-stop, bytes-leaf}
use Rattle.dst.specs.Frame.{Frame, frame_bytes, dsd_sound}
use Rattle.dst.specs.Head.{data_size, head}
use Rattle.dst.specs.Sized.{head_sized}
use Rattle.dst.proofs.SaturateLaws.{moved_capped}
use Rattle.dst.proofs.UnitLaws.{chunk-even, length-sound, dst-bytes}
use Rattle.prop_fields.specs.declared.compression.Sound.{Sound}
use Rattle.prop_fields.specs.declared.compression.Sound.TheVariants.{Dsd, Dst}
use Rattle.build_options.specs.declared.area.Area.{Area}
use Rattle.build_options.specs.Area.{area_positions}
use Rattle.file_tree.specs.Sound.{sound_bytes, sound_chunk, Fits, sound_size, sound_head}
use Rattle.file_tree.specs.Sized.{sound_head_sized}

-- of frames of these lengths
pub sound-head-sized : (s : Sound) (a : Area) (crc : Bool) (ls : List ℕ) (n : ℕ) → area_positions a * frame_bytes a.channels < 2 ^ 64
    → n ≡ min (sound_size s a crc ls) (2 ^ 64 - 1) → sound_head_sized s n (length ls) ≡ sound_head s a crc ls
unfolding sound_head sound_head_sized sound_size head head_sized data_size
sound-head-sized Dsd a crc ls n low e = let k : n ≡ area_positions a * frame_bytes a.channels = omega (arith, e, low) in rw k
sound-head-sized Dst a crc ls n low e = rw (e, moved_capped)

-- its length, whatever the size
pub length-sound-head : (s : Sound) (a : Area) (crc : Bool) (ls : List ℕ) (n : ℕ) → length (sound_head_sized s n (length ls)) ≡ length (sound_head s a crc ls)
unfolding sound_head sound_head_sized head head_sized
length-sound-head Dsd a crc ls n = rw (length-be, length-be)
length-sound-head Dst a crc ls n = simp (length-append, length-be)

-- contents of k bytes each
length-contents : (n k : ℕ) (fs : List Frame) → map (λ (f : Frame). length f.content) fs ≡ replicate n k → length (dsd_sound (map (λ (f : Frame). f.content) fs)) ≡ n * k
unfolding dsd_sound flat_map
length-contents zero k [] e = sym (zero-mul k)
length-contents zero k (f ∷ fs) e = let z : ◌≡◌ {A = ℕ} 0 1 = cc (e) in absurd (omega arith)
length-contents (suc n) k [] e = let z : ◌≡◌ {A = ℕ} 0 1 = cc (e) in absurd (omega arith)
length-contents (suc n) k (f ∷ fs) e =
    let first : length f.content ≡ k = cc in
    let rest : map (λ (f : Frame). length f.content) fs ≡ replicate n k = cc in
    rw (length-append, first, length-contents n k fs rest, suc-mul, add_comm)

pub length-sound_bytes : (s : Sound) (a : Area) (crc : Bool) (ls : List ℕ) (fs : List Frame) → Fits s a ls fs → length (sound_bytes s crc fs) ≡ sound_size s a crc ls
unfolding sound_bytes sound_size
length-sound_bytes Dsd a crc ls fs fits = length-contents (area_positions a) (frame_bytes a.channels) fs fits
length-sound_bytes Dst a crc ls fs fits = length-sound crc fs ∙ rw fits

-- a frame's bytes are even, so the chunk has no pad
even-contents : (n c : ℕ) → n * frame_bytes c % 2 ≡ 0
unfolding frame_bytes
even-contents n c = rw (← mul_assoc n 4704 c, mul_comm n 4704, mul_assoc 4704 n c) (omega arith)

pub sound-bytes : (s : Sound) (a : Area) (crc : Bool) (ls : List ℕ) (fs : List Frame) → Fits s a ls fs → 18 + sound_size s a crc ls < 2 ^ 64
    → bytes (sound_chunk s crc fs) ≡ sound_head s a crc ls ++ sound_bytes s crc fs
unfolding sound_bytes sound_chunk sound_head sound_size
sound-bytes Dsd a crc ls fs fits low =
    let size = length-sound_bytes Dsd a crc ls fs fits in
    let even : length (sound_bytes Dsd crc fs) % 2 ≡ 0 = rw size (even-contents (area_positions a) a.channels) in
    rw (bytes-leaf, chunk-even (ascii "DSD ") (sound_bytes Dsd crc fs) even, size)
sound-bytes Dst a crc ls fs fits low = dst-bytes crc fs ls stop (sym fits) low ∙ rw (bytes-stop, append-nil)
