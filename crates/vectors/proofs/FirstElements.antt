-- The first k elements of a local array, lent as a `&[T]`, and the array back; of any type of elements. It says nothing of the crate, and can be copied as it stands. Assumes `Logic`.
--     cuts     the array in memory is its first k elements there, and the others
--     lends    those are lent for κ under a new name: what a `&κ [T]` on them owns, and the lender's part
--     back     κ is dead: the lender's part and the others are the array in memory
use mathlib.Core.Path.{◌≡◌, refl, sym}
use Prim.Native.Nat.{ℕ}
use mathlib.Core.List.{List, [], ◌∷◌, ◌++◌}
use lib.ListN.{length, take, drop as drop-list, take-append-drop}
use seplogic.Ra.Ura.{Ura}
use base.Fraction.{full_share}
use mir.Syntax.{Lifetime}
use base.Logic.{ent, sep}
use base.Fml.{Lft, Fml, Incl, fdead, flent}
use ghost.Rules.{Toks, span}
use types.Logic.{Logic, sem, lfts}
use types.Kit.{‵, raw, ◌$◌, ◌∵◌, !, qed, by, drop as let_go, use1, use2, rewrite, fsplit, fjoin, feq_l, feq_i, updating, now as at_once, done}
use types.Tokens.{lent_back}
use types.SemTy.{cells}
use types.Share.{arr_parts}
use denote.RattleType.{RattleType}
use denote.Memory.{part_at, mem, shares, shared_of}
use denote.Shares.{SharesAsFrom}
use denote.Array.{Array}
use denote.ArrayMemory.{Single, Array-apart, Array-whole}
use denote.Lend.{LentShrs, lends_shr_slice}
use denote.Slice.{Room}
use borrow.Table.Elements.{cut_app, join_app}
use borrow.Rule.Array.Rows.{parts_f, rest_f}
use borrow.Rule.Array.Share.{Room-take}
use borrow.Rule.Slice.Shared.{parts-cells}

module _ {M : Type 1} {𝓤 : Ura M} (𝓛 : Logic 𝓤) (R : RattleType) where
  open 𝓛 use {H, A}

  pub cuts : Single R.mir → (n k : ℕ) (xs : List R.Denot) (b : ℕ)
      → ent 𝓤 (sem 𝓛 (part_at (Array R n) full_share xs b 0)) (sep 𝓤 (sem 𝓛 (cells (mem R) (take k xs) b 0)) (sem 𝓛 (rest_f R k xs b)))
  cuts single n k xs b =
      qed 𝓛 (‵ (part_at (Array R n) full_share xs b 0) ∷ []) ∵ use1 𝓛 (‵ ((arr_parts (shares R) n).part full_share xs b 0)) (Array-apart 𝓛 R full_share single n xs b 0) $
      fsplit ! $ feq_l ! (λ l. rewrite ! 0 (λ (F : Fml). ‵ F) (parts-cells R full_share xs b 0) refl $
      rewrite ! 0 (λ (ys : List R.Denot). ‵ (cells (mem R) ys b 0)) (sym (take-append-drop k xs)) refl $ by ! (cut_app 𝓛 (mem R) (take k xs) (drop-list k xs) b 0))

  pub lends : (n k : ℕ) (xs : List R.Denot) (b : ℕ) → length xs ≡ n → Room R n → (ℓ : Lifetime) (κ : Lft)
      → (a : Lft) → SharesAsFrom 𝓛 full_share R (shared_of R) a → (ts : Toks) → Incl (span ts) a → Incl (span ts) κ
      → ent 𝓤 (sep 𝓤 (sem 𝓛 (cells (mem R) (take k xs) b 0)) (lfts 𝓛 ts)) (H.⇛ (sep 𝓤 (LentShrs 𝓛 R ℓ κ full_share (take k xs) b 0) (lfts 𝓛 ts)))
  lends n k xs b l room ℓ κ a s ts inc sp =
      qed 𝓛 (‵ (cells (mem R) (take k xs) b 0) ∷ raw (lfts 𝓛 ts) ∷ []) ∵ rewrite ! 0 (λ (F : Fml). ‵ F) (sym (parts-cells R full_share (take k xs) b 0)) refl $
      feq_i ! ℕ (length (take k xs)) (length (take k xs)) refl $ fjoin ! $ by ! (lends_shr_slice 𝓛 R ℓ κ full_share (take k xs) b 0 (Room-take R n k xs l room) a s ts inc sp)

  pub back : (n k : ℕ) (xs : List R.Denot) (b : ℕ) → length xs ≡ n → (κ : Lft)
      → ent 𝓤 (sep 𝓤 (A.dead κ) (sep 𝓤 (A.lent κ (parts_f R (take k xs) b 0)) (sem 𝓛 (rest_f R k xs b)))) (H.⇛ (sem 𝓛 (part_at (Array R n) full_share xs b 0)))
  back n k xs b l κ =
      qed 𝓛 (‵ (fdead κ) ∷ ‵ (flent κ (parts_f R (take k xs) b 0)) ∷ ‵ (rest_f R k xs b) ∷ []) ∵ updating ! $ lent_back ! tt $ fsplit ! $ let_go ! $
      rewrite ! 0 (λ (F : Fml). ‵ F) (parts-cells R full_share (take k xs) b 0) refl $
      use2 𝓛 (‵ (cells (mem R) (take k xs ++ drop-list k xs) b 0)) (join_app 𝓛 (mem R) (take k xs) (drop-list k xs) b 0) $
      rewrite ! 0 (λ (ys : List R.Denot). ‵ (cells (mem R) ys b 0)) (take-append-drop k xs) refl $
      rewrite ! 0 (λ (F : Fml). ‵ F) (sym (parts-cells R full_share xs b 0)) refl $ feq_i ! ℕ (length xs) n l $ fjoin ! $
      use1 𝓛 (‵ (part_at (Array R n) full_share xs b 0)) (Array-whole 𝓛 R full_share n xs b 0) $ at_once ! $ done !
