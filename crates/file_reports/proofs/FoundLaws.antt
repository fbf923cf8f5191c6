-- The values that are reported of a tree under a parent and a name: of one chunk, of chunks one after the other, and of those that a list makes. Assumes nothing.
use mathlib.Core.Path.{◌≡◌, refl}
use mathlib.Core.Bool.{Bool, true, false, cond, ◌&&◌}
use mathlib.Core.List.{List, [], ◌∷◌, ◌++◌, flat_map, append-nil}
use Prim.Native.Nat.{ℕ}
use Rattle.chunk_names.specs.Name.{Name, same}
use Rattle.tree.specs.Tree.{Chunks, stop, leaf, node, join, each}
use Rattle.tree.specs.Reader.{Report, report, reports}
use Rattle.file_reports.specs.Values.{plain}
use Rattle.file_reports.specs.Recording.{values_under}
use Rattle.file_reports.proofs.ReportLaws.{reports-join}

pub nothing : (b : Bool) → ◌≡◌ {A = List (List ℕ)} (cond b [] []) []
nothing true = refl
nothing false = refl

-- the values of reports, part by part
module _ (p n : Name) where
  values-none : values_under p n [] ≡ []
  unfolding values_under
  values-none = refl

  values-append : (rs ss : List Report) → values_under p n (rs ++ ss) ≡ values_under p n rs ++ values_under p n ss
  unfolding values_under
  values-append [] ss = refl
  values-append (r ∷ rs) ss = go (same r.parent p && same r.name n) (values-append rs ss)
    where
      go : (b : Bool) → values_under p n (rs ++ ss) ≡ values_under p n rs ++ values_under p n ss
          → cond b (r.value ∷ values_under p n (rs ++ ss)) (values_under p n (rs ++ ss))
          ≡ cond b (r.value ∷ values_under p n rs) (values_under p n rs) ++ values_under p n ss
      go true e = rw e
      go false e = e

  -- whether a parent and a name are those that are sought
  abbrev pub sought : Name → Name → Bool
  sought parent name = same parent p && same name n

  module _ (known : Name → Name → Bool) where
    -- the values of a tree's chunks that are sought
    abbrev pub found : Name → Chunks → List (List ℕ)
    found parent t = values_under p n (reports (plain known) parent t)

    module _ (parent : Name) where
      pub found-stop : found parent stop ≡ []
      unfolding reports
      found-stop = values-none

      pub found-join : (a b : Chunks) → found parent (join a b) ≡ found parent a ++ found parent b
      found-join a b = rw reports-join (values-append (reports (plain known) parent a) (reports (plain known) parent b))

      pub found-each : {A : Type 0} (f : A → Chunks) (xs : List A) → found parent (each f xs) ≡ flat_map (λ x. found parent (f x)) xs
      unfolding each flat_map
      found-each f [] = found-stop
      found-each f (x ∷ xs) = rw (found-join, found-each f xs)

      -- a chunk that may be known, and what is reported in it
      reported : (k : Bool) (name : Name) (content : List ℕ) (rs : List Report)
          → values_under p n (cond k (report (plain known) parent name content ∷ rs) [])
          ≡ cond (sought parent name) (cond k (content ∷ []) []) [] ++ cond k (values_under p n rs) []
      unfolding report values_under
      reported true name content rs = go (sought parent name)
        where
          go : (s : Bool) → cond s (content ∷ values_under p n rs) (values_under p n rs) ≡ cond s (content ∷ []) [] ++ values_under p n rs
          go true = refl
          go false = refl
      reported false name content rs = rw (nothing (sought parent name))

      -- one chunk
      pub found-leaf : (name : Name) (content : List ℕ)
          → found parent (leaf name content stop) ≡ cond (sought parent name) (cond (known parent name) (content ∷ []) []) []
      unfolding reports
      found-leaf name content = rw append-nil (rw (values-none, nothing (known parent name), append-nil) at (reported (known parent name) name content []))

      -- a chunk that may be left out
      pub found_if : (b : Bool) (name : Name) (content : List ℕ)
          → found parent (cond b (leaf name content stop) stop) ≡ cond (sought parent name) (cond (known parent name) (cond b (content ∷ []) []) []) []
      found_if true name content = found-leaf name content
      found_if false name content = rw (nothing (known parent name), nothing (sought parent name)) found-stop

      -- one container
      pub found-node : (name : Name) (form : List ℕ) (inside : Chunks)
          → found parent (node name form inside stop)
          ≡ cond (sought parent name) (cond (known parent name) (form ∷ []) []) [] ++ cond (known parent name) (found name inside) []
      unfolding reports
      found-node name form inside = rw append-nil (reported (known parent name) name form (reports (plain known) name inside))
