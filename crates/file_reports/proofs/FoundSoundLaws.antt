-- What a DST chunk holds, among the reports: FRTE and every frame's DSTF, where DSTC is not sought. Assumes nothing.
use mathlib.Core.Path.{◌≡◌, refl, ◌∙◌}
use mathlib.Core.Bool.{Bool, true, false, cond}
use mathlib.Core.List.{List, [], ◌∷◌, ◌++◌, map, append-nil}
use Prim.Native.Nat.{ℕ}
use lib.ListN.{length}
use Rattle.chunk.specs.Number.{be}
use Rattle.chunk_names.specs.Name.{Name, ascii}
use Rattle.tree.specs.Tree.{stop, leaf, join}
use Rattle.checksum.specs.Crc.{crc_of}
use Rattle.dst.specs.Frame.{Frame}
use Rattle.dst.specs.Unit.{unit, units}
use Rattle.dst.specs.Head.{rate}
use Rattle.file_reports.proofs.FoundLaws.{nothing, sought, found, found-stop, found-leaf, found-join}
use Rattle.file_reports.proofs.MissedLaws.{missed_leaf, missed_if}

module _ (p n : Name) (known : Name → Name → Bool) (quiet : sought p n (ascii "DST ") (ascii "DSTC") ≡ false) where
  -- the values of chunks with a name in DST, if they are sought and known
  abbrev told : Name → List (List ℕ) → List (List ℕ)
  told name values = cond (sought p n (ascii "DST ") name) (cond (known (ascii "DST ") name) values []) []

  found-unit : (crc : Bool) (f : Frame) → found p n known (ascii "DST ") (unit crc f) ≡ told (ascii "DSTF") (f.code ∷ [])
  unfolding unit join
  found-unit crc f =
      found-join p n known (ascii "DST ") (leaf (ascii "DSTF") f.code stop) _
      ∙ rw (
        missed_if p n known (ascii "DST ") crc _ (missed_leaf p n known (ascii "DST ") (ascii "DSTC") (be 4 (crc_of f.content)) quiet),
        found-leaf p n known (ascii "DST ") (ascii "DSTF") f.code,
      )
      (append-nil _)

  found-units : (crc : Bool) (fs : List Frame) → found p n known (ascii "DST ") (units crc fs) ≡ told (ascii "DSTF") (map (λ (f : Frame). f.code) fs)
  unfolding units
  found-units crc [] =
      rw (nothing (known (ascii "DST ") (ascii "DSTF")), nothing (sought p n (ascii "DST ") (ascii "DSTF"))) (found-stop p n known (ascii "DST "))
  found-units crc (f ∷ fs) =
      found-join p n known (ascii "DST ") (unit crc f) (units crc fs)
      ∙ rw (found-unit crc f, found-units crc fs) (go (sought p n (ascii "DST ") (ascii "DSTF")) (known (ascii "DST ") (ascii "DSTF")))
    where
      codes : List (List ℕ)
      codes = map (λ (f : Frame). f.code) fs

      go : (s k : Bool) → cond s (cond k (f.code ∷ []) []) [] ++ cond s (cond k codes []) [] ≡ cond s (cond k (f.code ∷ codes) []) []
      go true true = refl
      go true false = refl
      go false k = refl

  pub found-dst : (crc : Bool) (fs : List Frame)
      → found p n known (ascii "DST ") (leaf (ascii "FRTE") (rate (length fs)) (units crc fs))
      ≡ told (ascii "FRTE") (rate (length fs) ∷ []) ++ told (ascii "DSTF") (map (λ (f : Frame). f.code) fs)
  unfolding join
  found-dst crc fs =
      found-join p n known (ascii "DST ") (leaf (ascii "FRTE") (rate (length fs)) stop) (units crc fs)
      ∙ rw (found-leaf p n known (ascii "DST ") (ascii "FRTE") (rate (length fs)), found-units crc fs)
