-- The names on one side of the sound, appended one after the other. Assumes nothing.
use mathlib.Core.Path.{◌≡◌, refl}
use mathlib.Core.Bool.{Bool, true, false, cond}
use mathlib.Core.List.{List, [], flat_map}
use Prim.Native.Nat.{ℕ, ◌+◌, ◌<◌}
use lib.ListN.{length, take, get_or}
use Rattle.chunk.specs.Append.{Appended}
use Rattle.chunk_names.specs.declared.LocalChunk.{LocalChunk}
use Rattle.chunk.proofs.AppendLaws.{◌then◌, kept}
use Rattle.file_tree.specs.Sides.{is_sound, before, behind}
use Rattle.file_tree.specs.Steps.{on_side, has_sound, side}
use Rattle.file_tree.proofs.SideLaws.{side-next}

pub side-none : (b : Bool) → side b [] ≡ []
unfolding before behind
side-none false = refl
side-none true = refl

-- the next name is appended if it is on that side, as a test of a loop says
pub side_then : (f : LocalChunk → List ℕ) {xs ys zs : List ℕ} {a k m : ℕ} (l : List LocalChunk) (i : ℕ) (d : LocalChunk) → i < length l
    → (b : Bool) {passed sound test t : Bool} → passed ≡ has_sound (take i l) → sound ≡ is_sound (get_or l i d) → test ≡ on_side b passed sound → test ≡ t
    → Appended xs a (flat_map f (side b (take i l))) ys k → Appended ys k (cond t (f (get_or l i d)) []) zs m
    → (length zs ≡ length xs) × Appended xs a (flat_map f (side b (take (i + 1) l))) zs m
side_then f l i d more b {t} had met tested taken p q =
    let all = p then q in
    (kept all, rw (side-next l i d more f b t (rw (← had, ← met, ← tested) taken)) all)
