-- THE LAW: header, sound and trailer are the bytes of the file. Assumes nothing.
use mathlib.Core.Path.{◌≡◌, refl, ap, sym, ◌∙◌}
use mathlib.Core.Bool.{Bool, true, false, cond, true≢false}
use mathlib.Core.List.{List, [], ◌∷◌, ◌++◌, map, flat_map, append_assoc}
use Prim.Native.Nat.{ℕ, ◌+◌, ◌-◌, ◌*◌, ◌%◌, ◌^◌, ◌≤◌, ◌<◌, min}
use native.Mathlib.Omega.{arith}
use lib.ListN.{length, length-append}
use Rattle.chunk.specs.Number.{be}
use Rattle.chunk_names.specs.Name.{ascii}
use Rattle.chunk.specs.Chunk.{chunk, occupied}
use Rattle.tree.specs.Tree.{Chunks, stop, leaf, node, bytes, join, each}
use Rattle.chunk_names.specs.declared.LocalChunk.{LocalChunk}
use Rattle.chunk_names.specs.declared.LocalChunk.TheVariants.{Property, SoundData, DstIndex, EditedMasterInfo, Comments}
use Rattle.chunk.proofs.NumberLaws.{length-be}
use Rattle.chunk.proofs.ChunkLaws.{length-chunk}
use Rattle.tree.proofs.TreeLaws.{bytes-stop, bytes-leaf, bytes-node, bytes-join, bytes-each}
use Rattle.comt.specs.Comment.{written_comments, comt_data, has_comt, comt_chunk}
use Rattle.comt.proofs.CommentLaws.{comt_tree}
use Rattle.dst.specs.Frame.{Frame, frame_bytes}
use Rattle.dst.specs.Head.{dst}
use Rattle.dst_index.specs.Index.{dsti}
use Rattle.dst.proofs.UnitLaws.{chunk-even}
use Rattle.dst_index.proofs.IndexLaws.{dsti-bytes, length-dsti}
use Rattle.prop.specs.Property.{property}
use Rattle.prop_fields.specs.declared.compression.Sound.{Sound}
use Rattle.prop_fields.specs.declared.compression.Sound.TheVariants.{Dsd, Dst}
use Rattle.master_info.specs.Diin.{info_chunks, has_diin, diin}
use Rattle.refusal.specs.Orders.{local_rank, times}
use Rattle.build_options.specs.Area.{area_positions}
use Rattle.build_options.specs.Inputs.{Inputs}
use Rattle.file_tree.specs.Parts.{Parts, parts, info, has_index, first_offset, index_of}
use Rattle.file_tree.specs.Sound.{sound_bytes, sound_chunk, Fits, sound_size, sound_head}
use Rattle.caller_chunks.specs.Caller.{caller_chunk, caller_chunks}
use Rattle.file_tree.specs.Sides.{is_sound, before, behind, local_bytes, locals_bytes, version, front, back}
use Rattle.file_tree.specs.Sized.{front_sized}
use Rattle.file_tree.specs.File.{given, front_of, back_of, place, sound_length, form_size, header_of, trailer_of, local_chunk, form_chunks, file_of}
use Rattle.file_tree.proofs.SideLaws.{once}
use Rattle.file_tree.proofs.SoundLaws.{length-sound_bytes, sound-bytes, sound-head-sized, length-sound-head}

-- EVERY CHUNK OCCUPIES AN EVEN NUMBER OF BYTES, so FRM8 has no pad
abbrev Even : Chunks → Type 0
Even t = length (bytes t) % 2 ≡ 0

even-stop : Even stop
even-stop = rw bytes-stop

even-chunk : (name content : List ℕ) → length name ≡ 4 → length (chunk name content) % 2 ≡ 0
unfolding occupied
even-chunk name content four = rw (length-chunk name content four) (omega arith)

even-leaf : (name content : List ℕ) → length name ≡ 4 → Even (leaf name content stop)
even-leaf name content four = rw bytes-leaf (even-chunk name content four)

even-node : (name form : List ℕ) (inside : Chunks) → length name ≡ 4 → Even (node name form inside stop)
even-node name form inside four = rw bytes-node (even-chunk name (form ++ bytes inside) four)

even_if : (b : Bool) (t : Chunks) → Even t → Even (cond b t stop)
even_if true t e = e
even_if false t e = even-stop

even-join : (a b : Chunks) → Even a → Even b → Even (join a b)
even-join a b i j = rw (bytes-join, length-append) (omega (arith, i, j))

even-each : {A : Type 0} (f : A → Chunks) → ((x : A) → Even (f x)) → (xs : List A) → Even (each f xs)
unfolding each
even-each f h [] = even-stop
even-each f h (x ∷ xs) = even-join (f x) (each f xs) (h x) (even-each f h xs)

even-sound : (s : Sound) (crc : Bool) (fs : List Frame) → Even (sound_chunk s crc fs)
unfolding sound_chunk dst
even-sound Dsd crc fs = even-leaf (ascii "DSD ") (sound_bytes Dsd crc fs) refl
even-sound Dst crc fs = even-node (ascii "DST ") [] _ refl

even_local : (p : Parts) (base : ℕ) (fs : List Frame) (c : LocalChunk) → Even (local_chunk p base fs c)
unfolding local_chunk property diin comt_chunk
even_local p base fs Property = even-node (ascii "PROP") (ascii "SND ") _ refl
even_local p base fs SoundData = even-sound p.area.sound p.options.dst_crc fs
even_local p base fs DstIndex = even_if (has_index p) _ (even-leaf (ascii "DSTI") (index_of p base) refl)
even_local p base fs EditedMasterInfo =
    even_if (has_diin p.pool p.raw p.tracks p.markers (info p) p.info_order) _
    (even-node (ascii "DIIN") [] (info_chunks p.pool p.raw p.tracks p.markers (info p) p.info_order) refl)
even_local p base fs Comments =
    let cs = written_comments p.pool p.comments (info p).text in
    even_if (has_comt cs) _ (even-leaf (ascii "COMT") (comt_data cs) refl)

even-callers : (raw words : List ℕ) → Even (caller_chunks raw words)
unfolding caller_chunks caller_chunk
even-callers raw words = even-each (caller_chunk raw) (λ row. even-leaf _ _ (length-be 4 _)) _

even-form : (x : Inputs) (fs : List Frame) → Even (form_chunks x fs)
unfolding form_chunks bytes
even-form x fs =
    let rest = join (each (local_chunk (parts x) (place x) fs) (given x)) (caller_chunks x.raw x.callers) in
    let later = even-join (each (local_chunk (parts x) (place x) fs) (given x)) (caller_chunks x.raw x.callers)
    (even-each (local_chunk (parts x) (place x) fs) (even_local (parts x) (place x) fs) (given x)) (even-callers x.raw x.callers) in
    rw length-append (omega (arith, even-chunk (ascii "FVER") version refl, later))

-- THE LOCAL CHUNKS, in the order given
module _ (p : Parts) (base : ℕ) (fs : List Frame) (few : length p.lengths ≤ 2 ^ 60) where
  local-bytes : (c : LocalChunk) → is_sound c ≡ false → bytes (local_chunk p base fs c) ≡ local_bytes p base c
  unfolding local_chunk local_bytes
  local-bytes Property other = refl
  local-bytes SoundData other = absurd (true≢false other)
  local-bytes DstIndex other = go (has_index p)
    where
      go : (b : Bool) → bytes (cond b (leaf (ascii "DSTI") (index_of p base) stop) stop) ≡ cond b (dsti p.options.dst_crc (first_offset p base) p.lengths) []
      go true = sym (dsti-bytes p.options.dst_crc (first_offset p base) p.lengths few)
      go false = bytes-stop
  local-bytes EditedMasterInfo other = refl
  local-bytes Comments other = comt_tree p.pool p.comments _

  locals-bytes : (cs : List LocalChunk) → times (map local_rank cs) 1 ≡ 1
      → bytes (each (local_chunk p base fs) cs)
      ≡ locals_bytes p base (before cs) ++ bytes (sound_chunk p.area.sound p.options.dst_crc fs) ++ locals_bytes p base (behind cs)
  unfolding local_chunk
  locals-bytes cs one = bytes-each (local_chunk p base fs) cs ∙ once (λ c. bytes (local_chunk p base fs c)) (local_bytes p base) local-bytes cs one

-- (the names of chunks compute, so lists are regrouped by laws on variables)
regroup : (d v a h s b c : List ℕ) → d ++ (v ++ ((a ++ (h ++ s) ++ b) ++ c)) ≡ d ++ v ++ a ++ h ++ s ++ (b ++ c)
regroup d v a h s b c = simp append_assoc

joined : (f n a s b : List ℕ) → f ++ n ++ (a ++ s ++ b) ≡ f ++ n ++ a ++ s ++ b
joined f n a s b = simp append_assoc

module _ (x : Inputs) (fs : List Frame) (fits : Fits x.area.sound x.area x.lengths fs)
    (one : times (map local_rank (given x)) 1 ≡ 1) (few : length x.lengths ≤ 2 ^ 60) (low : 18 + sound_length x < 2 ^ 64) where
  abbrev sound : List ℕ
  sound = sound_bytes x.area.sound x.options.dst_crc fs

  -- FRM8's data
  form-bytes : ascii "DSD " ++ bytes (form_chunks x fs) ≡ front_of x (place x) ++ sound ++ back_of x (place x)
  unfolding form_chunks bytes front back
  form-bytes =
      rw (
        bytes-join (each (local_chunk (parts x) (place x) fs) (given x)) (caller_chunks x.raw x.callers),
        locals-bytes (parts x) (place x) fs few (given x) one,
        sound-bytes x.area.sound x.area x.options.dst_crc x.lengths fs fits low,
      )
      (regroup (ascii "DSD ") (chunk (ascii "FVER") version) (locals_bytes (parts x) (place x) (before (given x)))
      (sound_head x.area.sound x.area x.options.dst_crc x.lengths) sound (locals_bytes (parts x) (place x) (behind (given x)))
      (bytes (caller_chunks x.raw x.callers)))

  -- its size
  form-size : length (ascii "DSD " ++ bytes (form_chunks x fs)) ≡ form_size x
  form-size =
      ap length form-bytes
      ∙ rw (length-append, length-append, length-sound_bytes x.area.sound x.area x.options.dst_crc x.lengths fs fits)

  pub file-bytes : header_of x ++ sound ++ trailer_of x ≡ bytes (file_of x fs)
  unfolding header_of trailer_of file_of
  file-bytes =
      let content = ascii "DSD " ++ bytes (form_chunks x fs) in
      let even : length content % 2 ≡ 0 = rw (length-append (ascii "DSD ") (bytes (form_chunks x fs))) (omega (arith, even-form x fs)) in
      sym (
      bytes-node (ascii "FRM8") (ascii "DSD ") (form_chunks x fs)
      ∙ chunk-even (ascii "FRM8") content even
      ∙ ap (λ (n : ℕ). ascii "FRM8" ++ be 8 n ++ content) form-size
      ∙ ap (λ (l : List ℕ). ascii "FRM8" ++ be 8 (form_size x) ++ l) form-bytes
      ∙ joined (ascii "FRM8") (be 8 (form_size x)) (front_of x (place x)) sound (back_of x (place x))
      )

-- FRM8's SIZE is 20 plus what the chunks after FVER occupy: the local chunks in their order, and the caller's
pub frm8_size : (x : Inputs) (fs : List Frame) → Fits x.area.sound x.area x.lengths fs → times (map local_rank (given x)) 1 ≡ 1
    → length x.lengths ≤ 2 ^ 60 → 18 + sound_length x < 2 ^ 64
    → form_size x ≡ 20 + length (bytes (join (each (local_chunk (parts x) (place x) fs) (given x)) (caller_chunks x.raw x.callers)))
unfolding form_chunks bytes occupied
frm8_size x fs fits one few low =
    sym (form-size x fs fits one few low)
    ∙ rw (length-append, length-append, length-chunk (ascii "FVER") version refl, length-be) (omega arith)

-- NO PLACE OF THE SOUND CHANGES A LENGTH
length-local : (p : Parts) (a b : ℕ) (c : LocalChunk) → length (local_bytes p a c) ≡ length (local_bytes p b c)
unfolding local_bytes
length-local p a b Property = refl
length-local p a b SoundData = refl
length-local p a b DstIndex = go (has_index p)
  where
    go : (t : Bool) → length (cond t (dsti p.options.dst_crc (first_offset p a) p.lengths) []) ≡ length (cond t (dsti p.options.dst_crc (first_offset p b) p.lengths) [])
    go true = length-dsti _ (first_offset p a) p.lengths ∙ sym (length-dsti _ (first_offset p b) p.lengths)
    go false = refl
length-local p a b EditedMasterInfo = refl
length-local p a b Comments = refl

length_locals : (p : Parts) (a b : ℕ) (cs : List LocalChunk) → length (locals_bytes p a cs) ≡ length (locals_bytes p b cs)
unfolding flat_map
length_locals p a b [] = refl
length_locals p a b (c ∷ cs) = rw (length-append, length-append, length-local p a b c, length_locals p a b cs)

-- THE FRONT where the sound's size is known
module _ (p : Parts) (n base : ℕ) (cs : List LocalChunk) where
  pub front-sized : area_positions p.area * frame_bytes p.area.channels < 2 ^ 64
      → n ≡ min (sound_size p.area.sound p.area p.options.dst_crc p.lengths) (2 ^ 64 - 1) → front_sized p n base cs ≡ front p base cs
  unfolding front front_sized
  front-sized low e = rw (sound-head-sized p.area.sound p.area p.options.dst_crc p.lengths n low e)

  pub length-front-sized : length (front_sized p n base cs) ≡ length (front p base cs)
  unfolding front front_sized
  length-front-sized = simp (length-append, length-sound-head p.area.sound p.area p.options.dst_crc p.lengths n)

pub length_front : (x : Inputs) (a b : ℕ) → length (front_of x a) ≡ length (front_of x b)
unfolding front
length_front x a b = simp (length-append, length_locals (parts x) a b (before (given x)))

pub length_back : (x : Inputs) (a b : ℕ) → length (back_of x a) ≡ length (back_of x b)
unfolding back
length_back x a b = simp (length-append, length_locals (parts x) a b (behind (given x)))

-- the header ends where the sound begins
pub length-header : (x : Inputs) → length (header_of x) ≡ place x
unfolding header_of place
length-header x = rw (length-append, length-append, length-be, length_front x (place x) 0)
