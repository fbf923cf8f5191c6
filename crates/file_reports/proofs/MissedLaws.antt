-- Chunks of which nothing is reported under the parent and the name that are sought. Assumes nothing.
use mathlib.Core.Path.{◌≡◌, ◌∙◌}
use mathlib.Core.Bool.{Bool, true, false, cond}
use mathlib.Core.List.{List, []}
use Prim.Native.Nat.{ℕ}
use Rattle.chunk_names.specs.Name.{Name}
use Rattle.tree.specs.Tree.{Chunks, stop, leaf, node, each}
use Rattle.file_reports.proofs.FoundLaws.{nothing, sought, found, found-stop, found-leaf, found-node, found-each}
use Rattle.file_reports.proofs.OnceLaws.{none}

module _ (p n : Name) (known : Name → Name → Bool) (parent : Name) where
  pub missed_leaf : (name : Name) (content : List ℕ) → sought p n parent name ≡ false → found p n known parent (leaf name content stop) ≡ []
  missed_leaf name content e = found-leaf p n known parent name content ∙ rw e

  pub passed-node : (name : Name) (form : List ℕ) (inside : Chunks) → sought p n parent name ≡ false
      → found p n known parent (node name form inside stop) ≡ cond (known parent name) (found p n known name inside) []
  passed-node name form inside e = found-node p n known parent name form inside ∙ rw e

  pub missed_node : (name : Name) (form : List ℕ) (inside : Chunks) → sought p n parent name ≡ false → found p n known name inside ≡ []
      → found p n known parent (node name form inside stop) ≡ []
  missed_node name form inside e i = passed-node name form inside e ∙ rw i (nothing (known parent name))

  -- chunks that may be left out, and those that a list makes
  pub missed_if : (b : Bool) (t : Chunks) → found p n known parent t ≡ [] → found p n known parent (cond b t stop) ≡ []
  missed_if true t e = e
  missed_if false t e = found-stop p n known parent

  pub missed_each : {A : Type 0} (f : A → Chunks) → ((a : A) → found p n known parent (f a) ≡ []) → (xs : List A) → found p n known parent (each f xs) ≡ []
  missed_each f h xs = found-each p n known parent f xs ∙ none _ h xs
