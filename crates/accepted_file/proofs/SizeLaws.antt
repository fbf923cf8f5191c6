-- An accepted build's header, sound and trailer are far below what a size can tell, and the sound is named once. Assumes nothing.
use mathlib.Core.Path.{◌≡◌, refl}
use mathlib.Core.Bool.{Bool, true, false, cond}
use mathlib.Core.List.{List, [], ◌∷◌, ◌++◌, map, flat_map}
use Prim.Native.Nat.{ℕ, zero, suc, ◌+◌, ◌-◌, ◌*◌, ◌/◌, ◌^◌, ◌≤◌, ◌<◌, min}
use native.Mathlib.Nat.{mul-le-mul}
use native.Mathlib.Numerals.{add-one}
use native.Mathlib.Omega.{arith}
use lib.Dec.{eqb}
use borrow.Author.Tests.{eqb-false}
use lib.ListN.{length, get_or, take, drop, length-append}
use Rattle.std.proofs.lemmas.List.{take-map}
use Rattle.chunk.specs.Number.{be}
use Rattle.chunk_names.specs.Name.{ascii}
use Rattle.chunk.specs.Chunk.{chunk, occupied}
use Rattle.tree.specs.Tree.{stop, node, bytes, each}
use Rattle.chunk_names.specs.declared.LocalChunk.{LocalChunk}
use Rattle.chunk_names.specs.declared.LocalChunk.TheVariants.{Property, SoundData, DstIndex, EditedMasterInfo, Comments}
use Rattle.chunk.proofs.NumberLaws.{length-be}
use Rattle.chunk.proofs.ChunkLaws.{length-chunk}
use Rattle.tree.proofs.TreeLaws.{bytes-stop, bytes-leaf, bytes-node}
use Rattle.texts.specs.Extent.{part}
use Rattle.texts.specs.declared.extent.Extent.{Extent}
use Rattle.comt.specs.Comment.{Written, written_comments, comt_data, has_comt, comt}
use Rattle.texts.proofs.ExtentLaws.{length_part}
use Rattle.comt.proofs.CommentLaws.{Fits, comments_fit, length-comt_data, comt_data-short}
use Rattle.dst.specs.Frame.{frame_bytes}
use Rattle.dst.specs.Unit.{unit_size, sizes}
use Rattle.dst.specs.Start.{sum}
use Rattle.dst_index.specs.Index.{dsti}
use Rattle.dst_index.proofs.IndexLaws.{length-dsti, length-head}
use Rattle.prop.specs.Property.{property_chunks, property}
use Rattle.prop_fields.specs.declared.compression.Sound.{Sound}
use Rattle.prop_fields.specs.declared.compression.Sound.TheVariants.{Dsd, Dst}
use Rattle.prop.proofs.PropertyLaws.{property-short}
use Rattle.master_info.specs.Diin.{info_chunks, has_diin, diin}
use Rattle.refusal.specs.Below.{below}
use Rattle.refusal.specs.Orders.{local_rank, times}
use Rattle.refusal.proofs.OrderLaws.{local_rank_low, once-room}
use Rattle.std.specs.Prelude.{Ok}
use Rattle.build_options.specs.Area.{area_positions, is_dst}
use Rattle.build_options.specs.Inputs.{Inputs}
use Rattle.rules.specs.Limits.{longest_text}
use Rattle.checks.specs.InputVerdict.{verdict}
use Rattle.checks.proofs.AcceptedLaws as accepted
use Rattle.checks.proofs.DiinBelowLaws.{written_low}
use Rattle.file_tree.specs.Parts.{parts, properties, info, has_index, first_offset}
use Rattle.file_tree.specs.Sound.{sound_size, sound_head}
use Rattle.caller_chunks.specs.Caller.{caller_chunk}
use Rattle.file_tree.specs.Sides.{is_sound, before, behind, local_bytes, locals_bytes, version, front, back}
use Rattle.file_tree.specs.File.{given, front_of, back_of, sound_length, Ordered}
use Rattle.caller_chunks.proofs.CallerLaws.{first_chunks, callers-next, callers_all}

-- chunks that may be left out
chunk-low : (b : Bool) (name content : List ℕ) (n : ℕ) → length name ≡ 4 → length content ≤ n → length (cond b (chunk name content) []) ≤ 13 + n
unfolding occupied
chunk-low true name content n four h = omega (arith, length-chunk name content four, h)
chunk-low false name content n four h = omega arith

-- the units of frames of at most 65,536 bytes
unit-low : (crc : Bool) (l : ℕ) → l ≤ 65_536 → unit_size crc l ≤ 65_565
unfolding unit_size occupied
unit-low true l h = omega arith
unit-low false l h = omega arith

sum_low : (crc : Bool) (ls : List ℕ) → ((k : ℕ) → k < length ls → get_or ls k 0 ≤ 65_536) → sum (sizes crc ls) ≤ 65_565 * length ls
unfolding sum
sum_low crc [] h = omega arith
sum_low crc (l ∷ ls) h = omega (arith, unit-low crc l (h 0 (omega arith)), sum_low crc ls (λ k i. h (suc k) (omega arith)))

-- what is made of the names on both sides is no more than what is made of all
sides-room : (f : LocalChunk → List ℕ) (cs : List LocalChunk) → length (flat_map f (before cs)) + length (flat_map f (behind cs)) ≤ length (flat_map f cs)
unfolding before behind flat_map
sides-room f [] = omega arith
sides-room f (c ∷ cs) = rw (length-append) (go (is_sound c) (sides-room f cs))
  where
    go : (t : Bool) → length (flat_map f (before cs)) + length (flat_map f (behind cs)) ≤ length (flat_map f cs)
        → length (flat_map f (cond t [] (c ∷ before cs))) + length (flat_map f (cond t cs (behind cs))) ≤ length (f c) + length (flat_map f cs)
    go true h = omega arith
    go false h = rw (length-append) (omega (arith, h))

-- the most bytes of each local chunk, by its number: PROP (13 + 194), the sound (none of it here), DSTI, DIIN, COMT
abbrev local_mosts : ℕ → ℕ
local_mosts r = get_or (207 ∷ 0 ∷ (2 ^ 24) ∷ (13 + 2 ^ 38) ∷ (2 ^ 36) ∷ []) r 0

-- a local chunk is named at most once (37), and once if it is named
named-few : (x : Inputs) → verdict x ≡ Ok tt → (rank : ℕ) → rank < 5 → times (map local_rank (given x)) rank ≤ 1
named-few x ok rank h = rw (← take-map local_rank (min x.local_count 5) x.local_order) (accepted.local-once x ok rank h)

pub named-once : (x : Inputs) → verdict x ≡ Ok tt → (rank : ℕ) → rank < 5
    → eqb (times (take (min x.local_count 5) (map local_rank x.local_order)) rank) 0 ≡ false → times (map local_rank (given x)) rank ≡ 1
named-once x ok rank h named =
    let some = rw (take-map local_rank (min x.local_count 5) x.local_order) at (eqb-false _ 0 named) in
    omega (arith, named-few x ok rank h, some)

module _ (x : Inputs) (ok : verdict x ≡ Ok tt) (sized : Ordered x) where
  pub positions_few : area_positions x.area ≤ 1_151_999
  positions_few = omega (arith, (accepted.range_inside x ok).1, accepted.playtime_bound x ok)

  pub lengths-few : length x.lengths ≤ 1_151_999
  lengths-few = rw (accepted.lengths-number x ok) (go (is_dst x.area.sound))
    where
      go : (b : Bool) → cond b (area_positions x.area) 0 ≤ 1_151_999
      go true = positions_few
      go false = omega arith

  -- the sound is named once
  pub sound-once : times (map local_rank (given x)) 1 ≡ 1
  sound-once = named-once x ok 1 (omega arith) (accepted.sound-named x ok)

  pub sound-low : sound_length x < 2 ^ 40
  unfolding sound_size frame_bytes
  sound-low = go x.area.sound
    where
      go : (s : Sound) → sound_size s x.area x.options.dst_crc x.lengths < 2 ^ 40
      go Dsd =
          let frame : 4704 * x.area.channels ≤ 28_224 = omega (arith, (accepted.channels-bound x ok).1) in
          let most = mul-le-mul positions_few frame in
          omega (arith, most)
      go Dst = omega (arith, sum_low x.options.dst_crc x.lengths (λ k h. (accepted.lengths-bound x ok k h).1), lengths-few)

  -- (for texts of 1,048,576 values no smaller power of 2 would do)
  comments-low : length (comt x.pool x.comments (info (parts x)).text) ≤ 2 ^ 36
  unfolding comt
  comments-low = go (has_comt cs) refl
    where
      cs : List Written
      cs = written_comments x.pool x.comments (info (parts x)).text

      fits : Fits (1 + longest_text) cs
      fits = comments_fit x.pool (info (parts x)).text (1 + longest_text) x.comments (λ k h. omega (arith, (accepted.comments_fit x ok).short k h))

      go : (b : Bool) → has_comt cs ≡ b → length (cond b (chunk (ascii "COMT") (comt_data cs)) []) ≤ 2 ^ 36
      go true e =
          let size = length-comt_data 0 cs in
          chunk-low true (ascii "COMT") (comt_data cs) (2 ^ 36 - 13) refl (omega (arith, size, comt_data-short (1 + longest_text) cs fits e 0))
      go false e = omega arith

  diin-short : length (bytes (diin x.pool x.raw x.tracks x.markers (info (parts x)) x.info_order)) ≤ 13 + 2 ^ 38
  unfolding diin
  diin-short = go (has_diin x.pool x.raw x.tracks x.markers (info (parts x)) x.info_order) refl
    where
      go : (b : Bool) → has_diin x.pool x.raw x.tracks x.markers (info (parts x)) x.info_order ≡ b
          → length (bytes (cond b (node (ascii "DIIN") [] (info_chunks x.pool x.raw x.tracks x.markers (info (parts x)) x.info_order) stop) stop)) ≤ 13 + 2 ^ 38
      go true has = rw bytes-node (chunk-low true (ascii "DIIN") _ (2 ^ 38) refl (written_low x ok has))
      go false has = rw bytes-stop (omega arith)

  module _ (base : ℕ) where
    -- each local chunk by itself
    local-low : (c : LocalChunk) → length (local_bytes (parts x) base c) ≤ local_mosts (local_rank c)
    unfolding local_bytes property
    local-low Property =
        rw bytes-node
        (chunk-low true (ascii "PROP") (ascii "SND " ++ bytes (property_chunks x.property_order (properties (parts x)))) 194 refl
        (property-short (properties (parts x)) x.property_order sized.property))
    local-low SoundData = omega arith
    local-low DstIndex = go (has_index (parts x))
      where
        go : (b : Bool) → length (cond b (dsti x.options.dst_crc (first_offset (parts x) base) x.lengths) []) ≤ 2 ^ 24
        go true = rw (length-dsti) (omega (arith, lengths-few))
        go false = omega arith
    local-low EditedMasterInfo = diin-short
    local-low Comments = comments-low

    -- and all of them, each name once
    locals-low : length (locals_bytes (parts x) base (given x)) ≤ 2 ^ 38 + 2 ^ 37
    unfolding below
    locals-low = omega (arith, once-room local_rank (local_bytes (parts x) base) local_mosts local-low 5 local_rank_low (given x) (named-few x ok))

    head-low : (s : Sound) → length (sound_head s x.area x.options.dst_crc x.lengths) ≤ 30
    unfolding sound_head
    head-low Dsd = rw (length-append, length-be) (omega arith)
    head-low Dst = rw length-head (omega arith)

    pub front_low : length (front_of x base) < 2 ^ 39
    unfolding front occupied
    front_low =
        rw (length-append, length-append, length-append, length-chunk (ascii "FVER") version refl, length-be)
        (omega (arith, sides-room (local_bytes (parts x) base) (given x), locals-low, head-low x.area.sound))

    caller_low : (row : List ℕ) → get_or row 2 0 ≤ 16_777_216 → length (bytes (caller_chunk x.raw row)) ≤ 16_777_229
    unfolding caller_chunk
    caller_low row h =
        let e : Extent = record { start = get_or row 1 0; length = get_or row 2 0 } in
        rw bytes-leaf (chunk-low true (be 4 (get_or row 0 0)) (part x.raw e) 16_777_216 (length-be 4 (get_or row 0 0)) (omega (arith, length_part x.raw e)))

    callers-some : (i : ℕ) → i ≤ length x.callers / 3 → length (first_chunks x.raw x.callers i) ≤ 16_777_229 * i
    unfolding each
    callers-some zero h = rw bytes-stop (omega arith)
    callers-some (suc i) h =
        let more : i < length x.callers / 3 = omega arith in
        rw (← add-one i, callers-next x.raw x.callers i more, length-append)
        (omega (arith, callers-some i (omega arith), caller_low (take 3 (drop (i * 3) x.callers)) ((accepted.callers_fit x ok).short i more)))

    pub back_low : length (back_of x base) < 2 ^ 39
    unfolding back
    back_low =
        let n = length x.callers / 3 in
        rw (length-append, ← callers_all x.raw x.callers n (omega arith))
        (omega (arith, sides-room (local_bytes (parts x) base) (given x), locals-low, callers-some n (omega arith), (accepted.callers_fit x ok).few))
