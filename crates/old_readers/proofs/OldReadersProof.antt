-- DEMAND 3 holds: the proof of `EveryListOfReads` (specs/OldReaders.antt). Assumes nothing.
use mathlib.Core.Path.{◌≡◌, refl, sym, ap, subst, ◌∙◌}
use mathlib.Core.Bool.{Bool, true, false, cond}
use mathlib.Core.List.{List, [], ◌∷◌, ◌++◌}
use mathlib.Core.Option.{some, IsSome}
use Prim.Native.Nat.{ℕ, ◌^◌, ◌<◌}
use native.Mathlib.Nat.{zero-add}
use native.Mathlib.Omega.{arith}
use lib.ListN.{length, get_or, length-append}
use Rattle.chunk_names.specs.Name.{Name, ascii}
use Rattle.chunk.specs.Chunk.{chunk}
use Rattle.tree.specs.Tree.{bytes}
use Rattle.tree.specs.Reader.{Walked, read}
use Rattle.tree.specs.Value.{dsdiff}
use Rattle.tree.specs.Gather.{Holds}
use Rattle.tree.proofs.ReaderLaws.{walk-bytes}
use Rattle.tree.proofs.GatherLaws.{gather-reads, gather-whole, holds-one}
use Rattle.dst.specs.Frame.{Frame}
use Rattle.dst_index.specs.Index.{Stands}
use Rattle.prop_fields.specs.declared.compression.Sound.{Sound}
use Rattle.prop_fields.specs.declared.compression.Sound.TheVariants.{Dst}
use Rattle.std.specs.Prelude.{Ok}
use Rattle.build_options.specs.Inputs.{Inputs}
use Rattle.checks.specs.InputVerdict.{verdict}
use Rattle.file_tree.specs.Sound.{Fits, sound_bytes}
use Rattle.file_tree.specs.Parts.{parts, has_index}
use Rattle.file_tree.specs.File.{place, header_of, trailer_of, file_of}
use Rattle.file_tree.proofs.FileLaws.{length-header}
use Rattle.file_tree.proofs.SoundLaws.{length-sound_bytes}
use Rattle.accepted_file.proofs.AcceptedLaws.{accepted-file}
use Rattle.accepted_file.proofs.SizeLaws.{front_low, back_low, sound-low}
use Rattle.accepted_file.proofs.IndexLaws.{index-leads}
use Rattle.dsdiff.proofs.WholeLaws.{made}
use Rattle.dsdiff.proofs.WholeLaws as dsdiff-file
use Rattle.file_reports.specs.Values.{told}
use Rattle.file_reports.specs.Recording.{Known, Knows, values_under}
use Rattle.file_reports.proofs.ShapeLaws.{file_shaped}
use Rattle.file_reports.proofs.ToldLaws.{file-told}
use Rattle.file_reports.proofs.RecordingLaws.{recording, indexed}
use Rattle.old_readers.specs.Premises.{AcceptedBuild, Call, Recorded, AllGiven, reads_of}
use Rattle.old_readers.specs.OldReaders.{file_bytes, gathered, entry_place, OwnEntries, Gets, OldReaders, EveryListOfReads}
use Rattle.old_readers.proofs.FaithfulLaws.{faithful}
use Rattle.old_readers.proofs.OwnLaws as own

module _ (b : AcceptedBuild) (fs : List Frame) (recorded : Recorded b.inputs fs) where
  abbrev x : Inputs
  x = b.inputs

  ok : verdict x ≡ Ok tt
  ok = (made x b.header_before b.trailer_before b.promise refl).ok

  -- THE FILE that was built and given is the bytes of the tree that 01's rules make
  is-tree : file_bytes b fs ≡ bytes (file_of x fs)
  is-tree = dsdiff-file.whole x b.header_before b.trailer_before b.promise refl fs recorded.fits

  -- it is shorter than what a size can tell
  small : length (bytes (file_of x fs)) < 2 ^ 64
  unfolding place trailer_of
  small =
      let sized = b.promise.orders in
      let crc = x.options.dst_crc in
      let h = length-header x in
      let s = length-sound_bytes x.area.sound x.area crc x.lengths fs recorded.fits in
      let l = length-append (header_of x ++ sound_bytes x.area.sound crc fs) (trailer_of x) in
      let m = length-append (header_of x) (sound_bytes x.area.sound crc fs) in
      rw (← accepted-file x ok sized fs recorded.fits) (omega (arith, h, s, l, m, front_low x ok sized 0, back_low x ok sized (place x), sound-low x ok sized))

  -- an old reader of it
  reads-file : (known : Name → Name → Bool)
      → read (dsdiff known) (bytes (file_of x fs)) ≡ some (record { reports = told known x fs; end = length (bytes (file_of x fs)) })
  unfolding read
  reads-file known =
      walk-bytes (dsdiff known) [] 0 (file_of x fs) (file_shaped x ok known fs) small ∙ rw (file-told x ok known fs, zero-add)

  gets-file : (known : Name → Name → Bool) → Knows known x.area.sound → Gets known x fs (bytes (file_of x fs))
  gets-file known knows = record {
    reports = reads-file known;
    recording = recording x ok known fs knows;
    index = indexed x ok known fs knows;
  }

  dst-lengths : (s : Sound) → s ≡ Dst → Fits s x.area x.lengths fs → Fits Dst x.area x.lengths fs
  dst-lengths s e fits = subst (λ (t : Sound). Fits t x.area x.lengths fs) e fits

  leads : (dst : x.area.sound ≡ Dst) (i : ℕ) (unused : Frame) → i < length fs
      → Stands (file_bytes b fs) (entry_place x.options.dst_index_offset (own.index b fs recorded dst) i) (chunk (ascii "DSTF") (get_or fs i unused).code)
  leads dst i unused h =
      subst (λ (t : List ℕ). Stands t (entry_place x.options.dst_index_offset (own.index b fs recorded dst) i) (chunk (ascii "DSTF") (get_or fs i unused).code)) (sym is-tree)
      (index-leads x ok b.promise.orders dst fs (dst-lengths x.area.sound dst recorded.fits) i unused h)

  own-entries : (dst : x.area.sound ≡ Dst) → OwnEntries b fs (own.index b fs recorded dst)
  own-entries dst = record { many = own.many b fs recorded dst; own = own.own b fs recorded dst; long = own.long b fs recorded dst; leads = leads dst }

  -- what a reader is told, where it is told one
  is-index : (dst : x.area.sound ≡ Dst) (has : Bool) (index : List ℕ) → index ∷ [] ≡ cond has (own.index b fs recorded dst ∷ []) [] → OwnEntries b fs index
  is-index dst true index e = let same : own.index b fs recorded dst ≡ index = cc in subst (λ (l : List ℕ). OwnEntries b fs l) same (own-entries dst)
  is-index dst false index e = absurd (cc e)

  index-told : x.area.sound ≡ Dst → (known : Name → Name → Bool) → Knows known x.area.sound → Known known (ascii "FRM8") (ascii "DSTI")
      → (w : Walked) → read (dsdiff known) (file_bytes b fs) ≡ some w
      → (index : List ℕ) → values_under (ascii "FRM8") (ascii "DSTI") w.reports ≡ index ∷ [] → OwnEntries b fs index
  index-told dst known knows k w e index i =
      let got : some w ≡ some (record { reports = told known x fs; end = length (bytes (file_of x fs)) }) = sym e ∙ ap (read (dsdiff known)) is-tree ∙ reads-file known in
      let same : w.reports ≡ told known x fs = cc in
      is-index dst (has_index (parts x)) index (sym i ∙ rw same (indexed x ok known fs knows k))

  module _ (cs : List Call) (given : AllGiven b fs cs) where
    whole : ((p : ℕ) → p < length (file_bytes b fs) → IsSome (gathered cs p)) → Holds (gathered cs) (file_bytes b fs)
    whole all = gather-whole (file_bytes b fs) (reads_of cs) (faithful b fs recorded cs given) all

    -- what is gathered is the file, and no other list
    is-file : ((p : ℕ) → p < length (file_bytes b fs) → IsSome (gathered cs p)) → (s : List ℕ) → Holds (gathered cs) s → file_bytes b fs ≡ s
    is-file all s holds = holds-one (file_bytes b fs) s (λ p. sym (whole all p) ∙ holds p)

    old_readers : OldReaders b fs cs
    old_readers = record {
      covers = λ p. gather-reads (file_bytes b fs) (reads_of cs) p (faithful b fs recorded cs given);
      gets = λ all s holds known knows. subst (λ (t : List ℕ). Gets known x fs t) (sym is-tree ∙ is-file all s holds) (gets-file known knows);
      whole = whole;
      index = index-told;
    }

-- DEMAND 3
pub every-list-of-reads : EveryListOfReads
every-list-of-reads = old_readers
