-- When a reader is told of one tree what it is told of another, whose data is the values: chunk by chunk, in containers, of chunks one after the other, of chunks
-- that may be left out, and of those that each element of a list makes. Assumes nothing.
use mathlib.Core.Path.{◌≡◌, refl}
use mathlib.Core.Bool.{Bool, true, false, cond}
use mathlib.Core.List.{List, [], ◌∷◌, ◌++◌, append_assoc}
use Prim.Native.Nat.{ℕ}
use Rattle.chunk_names.specs.Name.{Name}
use Rattle.tree.specs.Tree.{Chunks, stop, leaf, node, join, each}
use Rattle.tree.specs.Reader.{Reader, report, reports}
use Rattle.tree.specs.Value.{value, dsdiff}
use Rattle.markers.proofs.AllLaws.{All}
use Rattle.file_reports.specs.Values.{plain}

pub reports-join : (r : Reader) (parent : Name) (a b : Chunks) → reports r parent (join a b) ≡ reports r parent a ++ reports r parent b
unfolding reports join
reports-join r parent stop b = refl
reports-join r parent (leaf name content rest) b = rw (append_assoc, reports-join r parent rest b)
reports-join r parent (node name form inside rest) b = rw (append_assoc, reports-join r parent rest b)

-- what holds of everything, and what follows of each element from what holds of it
module _ {A : Type 0} (P : A → Type 0) where
  pub every : ((a : A) → P a) → (l : List A) → All P l
  every h [] = tt
  every h (a ∷ l) = (h a, every h l)

  pub follows : (Q : A → Type 0) → ((a : A) → P a → Q a) → (l : List A) → All P l → All Q l
  follows Q h [] w = tt
  follows Q h (a ∷ l) w = (h a w.0, follows Q h l w.1)

-- what a reader reports of a tree is what stands in a tree of values
pub record Tells (known : Name → Name → Bool) (parent : Name) (t u : Chunks) : Type 0 where
  pub reported : reports (dsdiff known) parent t ≡ reports (plain known) parent u

module _ {known : Name → Name → Bool} {parent : Name} where
  pub stop_tells : Tells known parent stop stop
  unfolding reports
  stop_tells = record { reported = refl }

  pub leaf_tells : {name content v : List ℕ} {t u : Chunks} → value parent name content ≡ v → Tells known parent t u
      → Tells known parent (leaf name content t) (leaf name v u)
  unfolding reports report
  leaf_tells e h = record { reported = rw (e, h.reported) }

  -- a container: its form, and what is in it
  pub node_tells : {name form : List ℕ} {i j t u : Chunks} → value parent name form ≡ form → Tells known name i j → Tells known parent t u
      → Tells known parent (node name form i t) (node name form j u)
  unfolding reports report
  node_tells e h k = record { reported = rw (e, h.reported, k.reported) }

  pub join_tells : {a b t u : Chunks} → Tells known parent a b → Tells known parent t u → Tells known parent (join a t) (join b u)
  join_tells {a} {b} {t} {u} h k =
      record { reported = rw (reports-join (dsdiff known) parent a t, reports-join (plain known) parent b u, h.reported, k.reported) }

  pub if-tells : (b : Bool) {t u : Chunks} → (b ≡ true → Tells known parent t u) → Tells known parent (cond b t stop) (cond b u stop)
  if-tells true h = h refl
  if-tells false h = stop_tells

  pub each_tells : {A : Type 0} (f g : A → Chunks) (l : List A) → All (λ a. Tells known parent (f a) (g a)) l → Tells known parent (each f l) (each g l)
  unfolding each
  each_tells f g [] h = stop_tells
  each_tells f g (a ∷ l) h = join_tells h.0 (each_tells f g l h.1)
