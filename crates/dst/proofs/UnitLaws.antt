-- The units of frames: their bytes, their sizes, where they start, and the DST chunk that they make. Assumes nothing.
use mathlib.Core.Path.{◌≡◌, refl, sym, ap, ◌∙◌}
use mathlib.Core.Bool.{Bool, true, false}
use mathlib.Core.List.{List, [], ◌∷◌, ◌++◌, map, flat_map, append-nil, append_assoc}
use Prim.Native.Nat.{ℕ, zero, suc, ◌+◌, ◌%◌, ◌^◌, ◌≤◌, ◌<◌}
use native.Mathlib.Omega.{arith}
use lib.ListN.{length, take, get_or, length-append, length-map}
use Rattle.chunk.specs.Number.{be}
use Rattle.chunk_names.specs.Name.{Name, ascii}
use Rattle.chunk.specs.Chunk.{chunk, occupied}
use Rattle.tree.specs.Tree.{Chunks, bytes}
use Rattle.chunk.proofs.NumberLaws.{length-be}
use Rattle.chunk.proofs.ChunkLaws.{length-chunk, pad-even}
use Rattle.tree.proofs.TreeLaws.{bytes-join}
use Rattle.checksum.specs.Crc.{crc_of}
use Rattle.dst.specs.Frame.{Frame}
use Rattle.dst.specs.Unit.{lengths, unit, unit_bytes, units, sound, unit_size, sizes}
use Rattle.dst.specs.Start.{sum, start}
use Rattle.dst.specs.Head.{rate, frte, data_size, head, dst}
use Rattle.dst.proofs.SaturateLaws.{moved-fits}
use Rattle.dst.proofs.StartLaws.{start-suc, size-at}

-- a unit is its DSTF and, with CRC on, its DSTC
pub unit-plain : (f : Frame) → unit_bytes false f ≡ chunk (ascii "DSTF") f.code
unfolding unit_bytes unit bytes
unit-plain f = append-nil (chunk (ascii "DSTF") f.code)

pub unit-crc : (f : Frame) → unit_bytes true f ≡ chunk (ascii "DSTF") f.code ++ chunk (ascii "DSTC") (be 4 (crc_of f.content))
unfolding unit_bytes unit bytes
unit-crc f = ap (λ (l : List ℕ). chunk (ascii "DSTF") f.code ++ l) (append-nil (chunk (ascii "DSTC") (be 4 (crc_of f.content))))

pub length-unit : (crc : Bool) (f : Frame) → length (unit_bytes crc f) ≡ unit_size crc (length f.code)
unfolding unit_size occupied
length-unit false f = rw (unit-plain f, length-chunk (ascii "DSTF") f.code refl) (omega arith)
length-unit true f =
    rw (unit-crc f, length-append, length-chunk (ascii "DSTF") f.code refl, length-chunk (ascii "DSTC") (be 4 (crc_of f.content)) refl, length-be 4 (crc_of f.content)) refl

-- the units' lengths are their sizes, by the frames' lengths
pub sizes_of : (crc : Bool) (fs : List Frame) → map (λ (f : Frame). length (unit_bytes crc f)) fs ≡ sizes crc (lengths fs)
sizes_of crc [] = refl
sizes_of crc (f ∷ fs) = rw (length-unit crc f, sizes_of crc fs)

pub length-sound : (crc : Bool) (fs : List Frame) → length (sound crc fs) ≡ sum (sizes crc (lengths fs))
unfolding sound flat_map sum
length-sound crc [] = refl
length-sound crc (f ∷ fs) = rw (length-append, length-unit crc f, length-sound crc fs)

-- the chunks of the frames, written out
pub units-bytes : (crc : Bool) (fs : List Frame) → bytes (units crc fs) ≡ sound crc fs
unfolding bytes units sound flat_map unit_bytes
units-bytes crc [] = refl
units-bytes crc (f ∷ fs) = rw (bytes-join, units-bytes crc fs)

-- a unit ends where the next starts, by the frames' lengths
pub start-next : (crc : Bool) (ls : List ℕ) (i : ℕ) → i < length ls → start (sizes crc ls) (suc i) ≡ start (sizes crc ls) i + unit_size crc (get_or ls i 0)
start-next crc ls i h =
    start-suc (sizes crc ls) i (rw (length-map ls (unit_size crc)) h) ∙ ap (λ (n : ℕ). start (sizes crc ls) i + n) (size-at (unit_size crc) ls i h)

-- a start is the sum of what the frames before it occupy
pub start-front : (crc : Bool) (ls : List ℕ) (i : ℕ) → start (sizes crc ls) i ≡ sum (sizes crc (take i ls))
unfolding start sum
start-front crc [] zero = refl
start-front crc [] (suc i) = refl
start-front crc (l ∷ ls) zero = refl
start-front crc (l ∷ ls) (suc i) = ap (λ (n : ℕ). unit_size crc l + n) (start-front crc ls i)

-- units have even sizes, so the DST chunk has no pad
pub even-unit : (crc : Bool) (l : ℕ) → unit_size crc l % 2 ≡ 0
unfolding unit_size occupied
even-unit false l = omega arith
even-unit true l = omega arith

pub even-sizes : (crc : Bool) (ls : List ℕ) → sum (sizes crc ls) % 2 ≡ 0
unfolding sum
even-sizes crc [] = refl
even-sizes crc (l ∷ ls) = omega (arith, even-unit crc l, even-sizes crc ls)

pub chunk-even : (name : Name) (content : List ℕ) → length content % 2 ≡ 0 → chunk name content ≡ name ++ be 8 (length content) ++ content
unfolding chunk
chunk-even name content even = rw (pad-even (length content) even, append-nil)

pub length-rate : (n : ℕ) → length (rate n) ≡ 6
unfolding rate
length-rate n = simp (length-append, length-be)

pub length-frte : (n : ℕ) → length (frte n) ≡ 18
unfolding frte occupied
length-frte n = rw (length-chunk (ascii "FRTE") (rate n) refl, length-rate n) refl

-- (the names of chunks compute, so lists are regrouped by a law on variables)
regroup : (a b c d e : List ℕ) → a ++ b ++ (c ++ d) ++ e ≡ a ++ b ++ c ++ d ++ e
regroup a b c d e = simp append_assoc

-- THE DST CHUNK is its head, the sound, and what follows.
pub dst-bytes : (crc : Bool) (fs : List Frame) (ls : List ℕ) (rest : Chunks) → ls ≡ lengths fs → 18 + sum (sizes crc ls) < 2 ^ 64
    → bytes (dst crc fs rest) ≡ head crc ls ++ sound crc fs ++ bytes rest
unfolding dst head bytes frte data_size
dst-bytes crc fs ls rest same fits =
    let name = ascii "DST " in
    let first = frte (length fs) in
    let inside = first ++ bytes (units crc fs) in
    let long : length inside ≡ 18 + sum (sizes crc ls) = rw (length-append, length-frte (length fs), units-bytes crc fs, length-sound crc fs, same) refl in
    let even : length inside % 2 ≡ 0 = omega (arith, long, even-sizes crc ls) in
    let count : length fs ≡ length ls = sym (ap length same ∙ length-map fs (λ (f : Frame). length f.code)) in
    ap (λ (l : List ℕ). l ++ bytes rest) (chunk-even name inside even)
    ∙ ap (λ (n : ℕ). name ++ be 8 n ++ inside ++ bytes rest) (long ∙ sym (moved-fits 18 (sum (sizes crc ls)) fits))
    ∙ regroup name (be 8 (data_size (sizes crc ls))) first (bytes (units crc fs)) (bytes rest)
    ∙ ap (λ (l : List ℕ). name ++ be 8 (data_size (sizes crc ls)) ++ first ++ l ++ bytes rest) (units-bytes crc fs)
    ∙ ap (λ (n : ℕ). name ++ be 8 (data_size (sizes crc ls)) ++ frte n ++ sound crc fs ++ bytes rest) count

-- a unit has at most 29 bytes more than its frame
pub unit-most : (crc : Bool) (l : ℕ) → unit_size crc l ≤ l + 29
unfolding unit_size occupied
unit-most false l = omega arith
unit-most true l = omega arith
