-- What a reader that knows the wanted names is to report of an accepted build's file tells the recording: rate, channels, compression and every frame, each once; and the
-- index, if there is one and its name is known. Assumes nothing.
use mathlib.Core.Path.{◌≡◌, refl, ap, ◌∙◌}
use mathlib.Core.Bool.{Bool, true, false, cond}
use mathlib.Core.List.{List, [], ◌∷◌, map, flat_map, append-nil}
use Prim.Native.Nat.{ℕ, ◌<◌}
use native.Mathlib.Omega.{arith}
use lib.Dec.{eqb}
use lib.ListN.{length}
use Rattle.chunk_names.specs.Name.{Name, ascii, same}
use Rattle.chunk_names.specs.declared.LocalChunk.{LocalChunk}
use Rattle.chunk_names.specs.declared.LocalChunk.TheVariants.{Property, SoundData, DstIndex}
use Rattle.chunk_names.specs.declared.PropertyChunk.{PropertyChunk}
use Rattle.chunk_names.specs.declared.PropertyChunk.TheVariants.{SampleRate, Channels, CompressionType}
use Rattle.tree.specs.Tree.{stop, leaf, join, each}
use Rattle.dst.specs.Frame.{Frame}
use Rattle.dst.specs.Unit.{units}
use Rattle.dst.specs.Head.{rate, dst}
use Rattle.prop_fields.specs.declared.compression.Sound.{Sound}
use Rattle.prop_fields.specs.declared.compression.Sound.TheVariants.{Dsd, Dst}
use Rattle.prop.specs.Property.{id_of, is_property_written}
use Rattle.refusal.specs.Orders.{property_rank, local_rank, times}
use Rattle.std.specs.Prelude.{Ok}
use Rattle.refusal.proofs.VerdictLaws.{neither}
use Rattle.caller_chunks.specs.Caller.{caller_chunks}
use Rattle.build_options.specs.Inputs.{Inputs}
use Rattle.checks.specs.InputVerdict.{verdict}
use Rattle.checks.proofs.AcceptedLaws.{property-once, property-named, sound-named, index-named}
use Rattle.file_tree.specs.Parts.{parts, properties, has_index, index_of}
use Rattle.file_tree.specs.Sound.{sound_bytes, sound_chunk}
use Rattle.file_tree.specs.Sides.{version}
use Rattle.file_tree.specs.File.{given, place}
use Rattle.accepted_file.proofs.SizeLaws.{named-once}
use Rattle.file_reports.specs.Values.{property_value, local_told, file_told, told}
use Rattle.file_reports.specs.Recording.{Known, KnowsSound, Knows, values_under, Frames, Recording, Indexed}
use Rattle.file_reports.proofs.FoundLaws.{nothing, sought, found, found-leaf, found_if, found-join, found-each}
use Rattle.file_reports.proofs.MissedLaws.{missed_leaf, passed-node}
use Rattle.file_reports.proofs.OnceLaws.{none, once}
use Rattle.file_reports.proofs.FoundPropertyLaws.{found-properties}
use Rattle.file_reports.proofs.FoundSoundLaws.{found-dst}
use Rattle.file_reports.proofs.LocalLaws.{local_name, missed_local}
use Rattle.file_reports.proofs.MissedCallerLaws.{missed_callers}
use Rattle.file_reports.proofs.WithinLaws.{Within, in_property, is-index, is-dsd, in_dst, same_rank}

module _ (x : Inputs) (ok : verdict x ≡ Ok tt) (known : Name → Name → Bool) (fs : List Frame) where
  -- what is reported of a local chunk
  abbrev reported : Name → Name → LocalChunk → List (List ℕ)
  reported p n c = found p n known (ascii "FRM8") (local_told (parts x) (place x) fs c)

  module _ (knows : Knows known x.area.sound) where
    -- where what is sought is in one local chunk
    module _ (d : LocalChunk) (p n : Name) (w : Within x.area.sound d p n) where
      locals-told : values_under p n (told known x fs) ≡ flat_map (reported p n) (given x)
      unfolding file_told join
      locals-told =
          passed-node p n known [] (ascii "FRM8") (ascii "DSD ") _ w.form
          ∙ rw knows.form
          (found-join p n known (ascii "FRM8") (leaf (ascii "FVER") version stop) _
          ∙ rw (
            missed_leaf p n known (ascii "FRM8") (ascii "FVER") version w.version,
            found-join p n known (ascii "FRM8") (each (local_told (parts x) (place x) fs) (given x)) (caller_chunks x.raw x.callers),
            missed_callers x ok known p n w.callers,
            append-nil,
          )
          (found-each p n known (ascii "FRM8") (local_told (parts x) (place x) fs) (given x)))

      only : (c : LocalChunk) → reported p n c ≡ cond (eqb (local_rank c) (local_rank d)) (reported p n d) []
      only c = go (eqb (local_rank c) (local_rank d)) refl
        where
          name : Name
          name = local_name x.area.sound c

          go : (b : Bool) → eqb (local_rank c) (local_rank d) ≡ b → reported p n c ≡ cond b (reported p n d) []
          go true e = ap (reported p n) (same_rank c d e)
          go false e = missed_local p n known (parts x) (place x) fs c (neither (sought p n (ascii "FRM8") name) (same name p) (w.local c ∙ e))

      once-told : times (map local_rank (given x)) (local_rank d) ≡ 1 → values_under p n (told known x fs) ≡ reported p n d
      once-told e = locals-told ∙ once (reported p n) local_rank (local_rank d) (reported p n d) only (given x) e

    -- a chunk of PROP that is always written
    property-told : (d : PropertyChunk) → property_rank d < 5 → Known known (ascii "PROP") (id_of d) → is_property_written (properties (parts x)) d ≡ true
        → values_under (ascii "PROP") (id_of d) (told known x fs) ≡ property_value (properties (parts x)) d ∷ []
    unfolding same local_told
    property-told d low k w =
        once-told Property (ascii "PROP") (id_of d) (in_property x.area.sound (id_of d)) (named-once x ok 0 (omega arith) (property-named x ok))
        ∙ passed-node (ascii "PROP") (id_of d) known (ascii "FRM8") (ascii "PROP") (ascii "SND ") _ refl
        ∙ rw knows.property (found-properties known (properties (parts x)) d k w x.property_order (property-once x ok (property_rank d) low))

    -- the sound
    sound-told : (p n : Name) → Within x.area.sound SoundData p n
        → values_under p n (told known x fs) ≡ found p n known (ascii "FRM8") (sound_chunk x.area.sound x.options.dst_crc fs)
    unfolding local_told
    sound-told p n w = once-told SoundData p n w (named-once x ok 1 (omega arith) (sound-named x ok))

    frames-told : (s : Sound) → x.area.sound ≡ s → KnowsSound known s → Frames s fs (told known x fs)
    unfolding same sound_chunk sound_bytes dst
    frames-told Dsd e k =
        sound-told (ascii "FRM8") (ascii "DSD ") (rw e is-dsd)
        ∙ rw e (found-leaf (ascii "FRM8") (ascii "DSD ") known (ascii "FRM8") (ascii "DSD ") (sound_bytes Dsd x.options.dst_crc fs) ∙ rw k)
    frames-told Dst e k = (
      held (ascii "DSTF") ∙ found-dst (ascii "DST ") (ascii "DSTF") known refl x.options.dst_crc fs ∙ rw k.2,
      held (ascii "FRTE") ∙ found-dst (ascii "DST ") (ascii "FRTE") known refl x.options.dst_crc fs ∙ rw k.1,
    )
      where
        held : (n : Name) → values_under (ascii "DST ") n (told known x fs)
            ≡ found (ascii "DST ") n known (ascii "DST ") (leaf (ascii "FRTE") (rate (length fs)) (units x.options.dst_crc fs))
        held n =
            sound-told (ascii "DST ") n (rw e (in_dst n))
            ∙ rw e (passed-node (ascii "DST ") n known (ascii "FRM8") (ascii "DST ") [] _ refl ∙ rw k.0)

    pub recording : Recording x fs (told known x fs)
    unfolding property_value
    recording = record {
      rate = property-told SampleRate (omega arith) knows.rate refl;
      channels = property-told Channels (omega arith) knows.channels refl;
      compression = property-told CompressionType (omega arith) knows.compression refl;
      frames = frames-told x.area.sound refl knows.sounds;
    }

    pub indexed : Known known (ascii "FRM8") (ascii "DSTI") → Indexed x (told known x fs)
    unfolding same local_told
    indexed k = go (has_index (parts x)) refl
      where
        index : List (List ℕ)
        index = index_of (parts x) (place x) ∷ []

        written : reported (ascii "FRM8") (ascii "DSTI") DstIndex ≡ cond (has_index (parts x)) index []
        written = found_if (ascii "FRM8") (ascii "DSTI") known (ascii "FRM8") (has_index (parts x)) (ascii "DSTI") (index_of (parts x) (place x)) ∙ rw k

        w : Within x.area.sound DstIndex (ascii "FRM8") (ascii "DSTI")
        w = is-index x.area.sound

        go : (b : Bool) → has_index (parts x) ≡ b → values_under (ascii "FRM8") (ascii "DSTI") (told known x fs) ≡ cond b index []
        go true e = once-told DstIndex (ascii "FRM8") (ascii "DSTI") w (named-once x ok 2 (omega arith) (index-named x ok e)) ∙ written ∙ rw e
        go false e =
            locals-told DstIndex (ascii "FRM8") (ascii "DSTI") w
            ∙ none (reported (ascii "FRM8") (ascii "DSTI"))
            (λ c. only DstIndex (ascii "FRM8") (ascii "DSTI") w c ∙ rw (written, e) (nothing (eqb (local_rank c) 2))) (given x)
