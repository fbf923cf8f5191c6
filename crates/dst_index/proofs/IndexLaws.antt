-- The index of the frames, entry by entry, and where it leads. Assumes nothing.
use mathlib.Core.Path.{◌≡◌, refl, sym, ap, ◌∙◌}
use mathlib.Core.Bool.{Bool, cond}
use mathlib.Core.List.{List, [], ◌∷◌, ◌++◌, flat_map, append_assoc, append-nil}
use Prim.Native.Nat.{ℕ, zero, suc, ◌+◌, ◌-◌, ◌*◌, ◌%◌, ◌^◌, ◌≤◌, ◌<◌}
use native.Mathlib.Nat.{not-suc-le-zero, le_of_suc-le-suc, zero-add}
use native.Mathlib.Decide.{dec_lt}
use native.Mathlib.Omega.{arith}
use lib.ListN.{length, take, drop, get_or, length-append, length-map}
use lib.Seq.{take_at, drop_at, drop-nil, drop-drop, drop-cons}
use Rattle.chunk.specs.Append.{Appended, moved}
use Rattle.chunk.specs.Number.{be, num}
use Rattle.chunk_names.specs.Name.{ascii}
use Rattle.chunk.specs.Chunk.{chunk, pad}
use Rattle.tree.specs.Tree.{stop, leaf, bytes}
use Rattle.chunk.proofs.NumberLaws.{length-be, num-be}
use Rattle.chunk.proofs.AppendLaws.{moved-moved, ◌then◌, kept, overlay-out, overrun}
use Rattle.chunk.proofs.ChunkLaws.{pad-even}
use Rattle.tree.proofs.TreeLaws.{bytes-leaf}
use Rattle.checksum.specs.Crc.{crc_of}
use Rattle.dst.specs.Frame.{Frame}
use Rattle.dst.specs.Unit.{lengths, unit, unit_bytes, sound, unit_size, sizes}
use Rattle.dst.specs.Start.{sum, start}
use Rattle.dst.specs.Head.{head}
use Rattle.dst_index.specs.Index.{shift_of, entry, entry_of, joined, index, dsti, Stands}
use Rattle.dst_index.specs.declared.index.DstIndexOffset.{DstIndexOffset}
use Rattle.dst.proofs.SaturateLaws.{moved-zero, moved-lt, moved-fits}
use Rattle.dst.proofs.UnitLaws.{length-unit, length-frte, chunk-even}

-- one more
pub joined-more : (f : ℕ → List ℕ) (n : ℕ) → joined f (suc n) ≡ joined f n ++ f n
unfolding joined
joined-more f n = refl

-- the first, and the others
joined-first : (f : ℕ → List ℕ) (n : ℕ) → joined f (suc n) ≡ f 0 ++ joined (λ k. f (suc k)) n
unfolding joined
joined-first f zero = sym (append-nil (f 0))
joined-first f (suc n) = rw (joined-first f n, append_assoc)

joined_same : (f g : ℕ → List ℕ) (n : ℕ) → ((k : ℕ) → f k ≡ g k) → joined f n ≡ joined g n
unfolding joined
joined_same f g zero same = refl
joined_same f g (suc n) same = rw (joined_same f g n same, same n)

index-none : (crc : Bool) (at : ℕ) → index crc at [] ≡ []
unfolding index joined
index-none crc at = refl

-- THE RUNNING SUM: after the first entry stand those of the other frames, whose first offset is where the first unit ends
pub index-cons : (crc : Bool) (at l : ℕ) (ls : List ℕ) → at < 2 ^ 64
    → index crc at (l ∷ ls) ≡ entry at l ++ index crc (moved at (unit_size crc l)) ls
unfolding index start sum
index-cons crc at l ls s =
    let behind = moved at (unit_size crc l) in
    let later : (k : ℕ) → entry_of crc at (l ∷ ls) (suc k) ≡ entry_of crc behind ls k = λ k. rw moved-moved in
    rw (
      joined-first (entry_of crc at (l ∷ ls)) (length ls),
      joined_same (λ k. entry_of crc at (l ∷ ls) (suc k)) (entry_of crc behind ls) (length ls) later,
      moved-zero at s,
    )

pub length-entry : (offset l : ℕ) → length (entry offset l) ≡ 12
unfolding entry
length-entry offset l = simp (length-append, length-be)

length-joined : (f : ℕ → List ℕ) (n : ℕ) → ((k : ℕ) → length (f k) ≡ 12) → length (joined f n) ≡ 12 * n
unfolding joined
length-joined f zero long = refl
length-joined f (suc n) long = rw (length-append, length-joined f n long, long n) (omega arith)

-- an entry has 12 bytes, whatever its offset
pub length-index : (crc : Bool) (at : ℕ) (ls : List ℕ) → length (index crc at ls) ≡ 12 * length ls
unfolding index
length-index crc at ls = length-joined (entry_of crc at ls) (length ls) (λ k. length-entry (moved at (start (sizes crc ls) k)) (get_or ls k 0))

-- DSTI with 2 ^ 60 entries at the most is a chunk of the file's tree
pub dsti-bytes : (crc : Bool) (at : ℕ) (ls : List ℕ) → length ls ≤ 2 ^ 60 → dsti crc at ls ≡ bytes (leaf (ascii "DSTI") (index crc at ls) stop)
unfolding dsti
dsti-bytes crc at ls few =
    let size = length-index crc at ls in
    let even : length (index crc at ls) % 2 ≡ 0 = omega (arith, size) in
    rw (bytes-leaf, chunk-even (ascii "DSTI") (index crc at ls) even, size, moved-fits 0 (12 * length ls) (omega arith), zero-add)

-- DSTI has 12 bytes an entry and 12 more, whatever its offsets
pub length-dsti : (crc : Bool) (at : ℕ) (ls : List ℕ) → length (dsti crc at ls) ≡ 12 + 12 * length ls
unfolding dsti
length-dsti crc at ls = simp (length-append, length-be, length-index) refl

-- entries that come after the buffer's end are only measured
pub index_past : (crc : Bool) (at : ℕ) (ls : List ℕ) {ws hs xs : List ℕ} {d a b n : ℕ} → Appended ws d hs xs a → length xs ≤ a → n ≡ moved 0 (12 * length ls) → b ≡ moved a n
    → Appended ws d (hs ++ index crc at ls) xs b
index_past crc at ls {xs = xs} {a = a} head past size e =
    head
    then record {
      short = omega (arith, kept head, head.short);
      place = rw (e, size, length-index) (omega arith);
      buffer = sym (overlay-out xs a (index crc at ls) past);
    }

-- entries have no pad: their size is even, or such that a cursor can move no further
pub index_unpadded : (head : List ℕ) (crc : Bool) (at : ℕ) (ls : List ℕ) {xs ys : List ℕ} {a b n : ℕ} → n ≡ moved 0 (12 * length ls)
    → Appended xs a (head ++ index crc at ls ++ pad n) ys b → Appended xs a (head ++ index crc at ls) ys b
index_unpadded head crc at ls {xs} {ys} {a} {b} {n} size p = go (dec_lt (12 * length ls) (2 ^ 64 - 1))
  where
    go : Dec (12 * length ls < 2 ^ 64 - 1) → Appended xs a (head ++ index crc at ls) ys b
    go (yes l) =
        let even : n % 2 ≡ 0 = omega (arith, size, l) in
        rw (pad-even n even, append-nil) at p
    go (no l) = overrun (head ++ index crc at ls) (pad n) (omega (arith, length-index crc at ls, length-append head (index crc at ls))) p

pub length-head : (crc : Bool) (ls : List ℕ) → length (head crc ls) ≡ 30
unfolding head
length-head crc ls = simp (length-append, length-be, length-frte)

after-entry : (x y : ℕ) (rest : List ℕ) (i : ℕ) → drop (12 * suc i) (entry x y ++ rest) ≡ drop (12 * i) rest
after-entry x y rest i =
    let k : 12 * suc i ≡ 12 + 12 * i = omega arith in
    rw (k, ← drop-drop (12 * i) 12 (entry x y ++ rest), drop_at (entry x y) rest 12 (length-entry x y))

index-from : (crc : Bool) (at : ℕ) (ls : List ℕ) (i : ℕ) → at < 2 ^ 64
    → drop (12 * i) (index crc at ls) ≡ index crc (moved at (start (sizes crc ls) i)) (drop i ls)
unfolding start sum
index-from crc at ls zero s = ap (λ (a : ℕ). index crc a ls) (sym (moved-zero at s))
index-from crc at [] (suc i) s = ap (drop (12 * suc i)) (index-none crc at) ∙ drop-nil (12 * suc i) ∙ sym (index-none crc _)
index-from crc at (l ∷ ls) (suc i) s =
    ap (drop (12 * suc i)) (index-cons crc at l ls s)
    ∙ after-entry at l _ i
    ∙ index-from crc (moved at (unit_size crc l)) ls i (moved-lt at _)
    ∙ rw moved-moved

-- from entry i on
entry_first : (crc : Bool) (at : ℕ) (ls : List ℕ) (i : ℕ) → at < 2 ^ 64 → i < length ls
    → let offset = moved at (start (sizes crc ls) i) in
    drop (12 * i) (index crc at ls) ≡ be 8 offset ++ (be 4 (get_or ls i 0) ++ index crc (moved offset (unit_size crc (get_or ls i 0))) (drop (suc i) ls))
unfolding entry
entry_first crc at ls i s h =
    let offset = moved at (start (sizes crc ls) i) in
    index-from crc at ls i s
    ∙ ap (index crc offset) (drop-cons ls i 0 h)
    ∙ index-cons crc offset (get_or ls i 0) (drop (suc i) ls) (moved-lt at _)
    ∙ append_assoc (be 8 offset) (be 4 (get_or ls i 0)) _

-- ENTRY i holds where unit i starts, and its frame's length.
pub entry_at : (crc : Bool) (at : ℕ) (ls : List ℕ) (i : ℕ) → i < length ls → at + start (sizes crc ls) i < 2 ^ 64
    → num (take 8 (drop (12 * i) (index crc at ls))) ≡ at + start (sizes crc ls) i
entry_at crc at ls i h fits =
    rw (entry_first crc at ls i (omega arith) h, take_at (be 8 (moved at (start (sizes crc ls) i))) _ 8 (length-be 8 _), moved-fits at _ fits)
    (num-be 8 _ fits)

pub entry_length_lem : (crc : Bool) (at : ℕ) (ls : List ℕ) (i : ℕ) → at < 2 ^ 64 → i < length ls → get_or ls i 0 < 2 ^ 32
    → num (take 4 (drop (12 * i + 8) (index crc at ls))) ≡ get_or ls i 0
entry_length_lem crc at ls i s h short =
    rw (← drop-drop 8 (12 * i) (index crc at ls), entry_first crc at ls i s h, drop_at (be 8 (moved at (start (sizes crc ls) i))) _ 8 (length-be 8 _), take_at (be 4 (get_or ls i 0)) _ 4 (length-be 4 _))
    (num-be 4 _ short)

-- the sound, cut before and after the DSTF of frame i
record Cut (crc : Bool) (fs : List Frame) (i : ℕ) (d : Frame) : Type 0 where
  early : List ℕ
  late : List ℕ
  whole : sound crc fs ≡ early ++ (chunk (ascii "DSTF") (get_or fs i d).code ++ late)
  long : length early ≡ start (sizes crc (lengths fs)) i

cut : (crc : Bool) (fs : List Frame) (i : ℕ) (d : Frame) → i < length fs → Cut crc fs i d
unfolding sound flat_map unit_bytes unit bytes start sum
cut crc [] i d h = absurd (not-suc-le-zero h)
cut crc (f ∷ fs) zero d h = record {
  early = [];
  late = bytes (cond crc (leaf (ascii "DSTC") (be 4 (crc_of f.content)) stop) stop) ++ sound crc fs;
  whole = append_assoc (chunk (ascii "DSTF") f.code) (bytes (cond crc (leaf (ascii "DSTC") (be 4 (crc_of f.content)) stop) stop)) (sound crc fs);
  long = refl;
}
cut crc (f ∷ fs) (suc i) d h =
    let c = cut crc fs i d (le_of_suc-le-suc h) in
    record {
      early = unit_bytes crc f ++ c.early;
      late = c.late;
      whole = ap (λ (l : List ℕ). unit_bytes crc f ++ l) c.whole ∙ sym (append_assoc (unit_bytes crc f) c.early _);
      long = rw (length-append (unit_bytes crc f) c.early, length-unit crc f, c.long);
    }

regroup : (h e f l t : List ℕ) → h ++ (e ++ (f ++ l)) ++ t ≡ (h ++ e) ++ (f ++ (l ++ t))
regroup h e f l t = simp append_assoc

-- between any header and trailer, frame i's DSTF stands, with its data and pad, where its unit starts in the sound
pub frame-stands : (crc : Bool) (header : List ℕ) (fs : List Frame) (trailer : List ℕ) (i : ℕ) (d : Frame) → i < length fs
    → Stands (header ++ sound crc fs ++ trailer) (length header + start (sizes crc (lengths fs)) i) (chunk (ascii "DSTF") (get_or fs i d).code)
frame-stands crc header fs trailer i d h =
    let c = cut crc fs i d h in
    let frame = chunk (ascii "DSTF") (get_or fs i d).code in
    let whole = ap (λ (l : List ℕ). header ++ l ++ trailer) c.whole ∙ regroup header c.early frame c.late trailer in
    let long : length (header ++ c.early) ≡ length header + start (sizes crc (lengths fs)) i = rw (length-append, c.long) in
    rw (whole, drop_at (header ++ c.early) (frame ++ (c.late ++ trailer)) _ long) (take_at frame _ _ refl)

-- EACH ENTRY, less the shift, leads to its own frame's DSTF: in a file of any header, the sound, and any trailer.
pub entry-leads : (crc : Bool) (header : List ℕ) (fs : List Frame) (trailer : List ℕ) (o : DstIndexOffset) (i : ℕ) (d : Frame) → i < length fs
    → length header + shift_of o + start (sizes crc (lengths fs)) i < 2 ^ 64
    → Stands (header ++ sound crc fs ++ trailer)
    (num (take 8 (drop (12 * i) (index crc (moved (length header) (shift_of o)) (lengths fs)))) - shift_of o)
    (chunk (ascii "DSTF") (get_or fs i d).code)
entry-leads crc header fs trailer o i d h fits =
    let begin : moved (length header) (shift_of o) ≡ length header + shift_of o = moved-fits (length header) (shift_of o) (omega arith) in
    let less : length header + shift_of o + start (sizes crc (lengths fs)) i - shift_of o ≡ length header + start (sizes crc (lengths fs)) i = omega arith in
    let count : i < length (lengths fs) = rw (length-map fs (λ (f : Frame). length f.code)) h in
    rw (begin, entry_at crc (length header + shift_of o) (lengths fs) i count fits, less) (frame-stands crc header fs trailer i d h)
