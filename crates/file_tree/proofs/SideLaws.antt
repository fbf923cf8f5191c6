-- The names on either side of the sound, one more at a time; and all of them, where the sound is named once. Assumes nothing.
use mathlib.Core.Path.{◌≡◌, refl, ap, ◌∙◌}
use mathlib.Core.Bool.{Bool, true, false, cond, not, ◌||◌}
use mathlib.Core.List.{List, [], ◌∷◌, ◌++◌, map, flat_map, append_assoc}
use Prim.Native.Nat.{ℕ, ◌+◌, ◌<◌}
use native.Mathlib.Numerals.{add-one}
use native.Mathlib.Omega.{arith}
use lib.ListN.{length, take, get_or}
use lib.Seq.{take-suc}
use Rattle.chunk_names.specs.declared.LocalChunk.{LocalChunk}
use Rattle.chunk_names.specs.declared.LocalChunk.TheVariants.{Property, SoundData, DstIndex, EditedMasterInfo, Comments}
use Rattle.chunk.proofs.ListLaws.{flat_map-append, flat_map-one}
use Rattle.refusal.specs.Orders.{local_rank, times}
use Rattle.refusal.proofs.OrderLaws.{times-cons, times_none}
use Rattle.file_tree.specs.Sides.{is_sound, before, behind}
use Rattle.file_tree.specs.Steps.{on_side, has_sound, side}

has_sound-more : (cs : List LocalChunk) (c : LocalChunk) → has_sound (cs ++ (c ∷ [])) ≡ (has_sound cs || is_sound c)
unfolding has_sound
has_sound-more [] c = go (is_sound c)
  where
    go : (t : Bool) → (t || false) ≡ t
    go true = refl
    go false = refl
has_sound-more (d ∷ cs) c = go (is_sound d) (has_sound-more cs c)
  where
    go : (t : Bool) → has_sound (cs ++ (c ∷ [])) ≡ (has_sound cs || is_sound c) → (t || has_sound (cs ++ (c ∷ []))) ≡ ((t || has_sound cs) || is_sound c)
    go true e = refl
    go false e = e

before_more : (cs : List LocalChunk) (c : LocalChunk) → before (cs ++ (c ∷ [])) ≡ before cs ++ cond (not (has_sound cs || is_sound c)) (c ∷ []) []
unfolding before has_sound
before_more [] c = go (is_sound c)
  where
    go : (t : Bool) → cond t [] (c ∷ []) ≡ cond (not t) (c ∷ []) []
    go true = refl
    go false = refl
before_more (d ∷ cs) c = go (is_sound d) (before_more cs c)
  where
    go : (t : Bool) → before (cs ++ (c ∷ [])) ≡ before cs ++ cond (not (has_sound cs || is_sound c)) (c ∷ []) []
        → cond t [] (d ∷ before (cs ++ (c ∷ []))) ≡ cond t [] (d ∷ before cs) ++ cond (not ((t || has_sound cs) || is_sound c)) (c ∷ []) []
    go true e = refl
    go false e = ap (λ (l : List LocalChunk). d ∷ l) e

behind_more : (cs : List LocalChunk) (c : LocalChunk) → behind (cs ++ (c ∷ [])) ≡ behind cs ++ cond (has_sound cs) (c ∷ []) []
unfolding behind has_sound
behind_more [] c = go (is_sound c)
  where
    go : (t : Bool) → ◌≡◌ {A = List LocalChunk} (cond t [] []) []
    go true = refl
    go false = refl
behind_more (d ∷ cs) c = go (is_sound d) (behind_more cs c)
  where
    go : (t : Bool) → behind (cs ++ (c ∷ [])) ≡ behind cs ++ cond (has_sound cs) (c ∷ []) []
        → cond t (cs ++ (c ∷ [])) (behind (cs ++ (c ∷ []))) ≡ cond t cs (behind cs) ++ cond (t || has_sound cs) (c ∷ []) []
    go true e = refl
    go false e = e

side-more : (b : Bool) (cs : List LocalChunk) (c : LocalChunk) → side b (cs ++ (c ∷ [])) ≡ side b cs ++ cond (on_side b (has_sound cs) (is_sound c)) (c ∷ []) []
side-more false cs c = before_more cs c
side-more true cs c = behind_more cs c

-- of the first names of an order, as a loop goes
module _ (l : List LocalChunk) (i : ℕ) (d : LocalChunk) (h : i < length l) where
  next : take (i + 1) l ≡ take i l ++ (get_or l i d ∷ [])
  next = rw (add-one, take-suc l i d h)

  pub passed-next : has_sound (take (i + 1) l) ≡ (has_sound (take i l) || is_sound (get_or l i d))
  passed-next = rw next (has_sound-more (take i l) (get_or l i d))

  if-one : (f : LocalChunk → List ℕ) (t : Bool) → flat_map f (cond t (get_or l i d ∷ []) []) ≡ cond t (f (get_or l i d)) []
  unfolding flat_map
  if-one f true = flat_map-one f (get_or l i d)
  if-one f false = refl

  pub side-next : (f : LocalChunk → List ℕ) (b t : Bool) → on_side b (has_sound (take i l)) (is_sound (get_or l i d)) ≡ t
      → flat_map f (side b (take (i + 1) l)) ≡ flat_map f (side b (take i l)) ++ cond t (f (get_or l i d)) []
  side-next f b t e =
      ap (λ (cs : List LocalChunk). flat_map f (side b cs)) next
      ∙ ap (flat_map f) (side-more b (take i l) (get_or l i d) ∙ ap (λ (t : Bool). side b (take i l) ++ cond t (get_or l i d ∷ []) []) e)
      ∙ flat_map-append f (side b (take i l)) (cond t (get_or l i d ∷ []) [])
      ∙ ap (λ (s : List ℕ). flat_map f (side b (take i l)) ++ s) (if-one f t)

-- THE SOUND IS NAMED ONCE: what is made of the names before it, of itself, and of the names behind it
module _ (f : LocalChunk → List ℕ) (g : LocalChunk → List ℕ) (same : (c : LocalChunk) → is_sound c ≡ false → f c ≡ g c) where
  front : (d : LocalChunk) (cs : List LocalChunk) → is_sound d ≡ false → flat_map f cs ≡ flat_map g cs → f d ++ flat_map f cs ≡ g d ++ flat_map g cs
  front d cs other e = rw (same d other, e)

  without : (cs : List LocalChunk) → times (map local_rank cs) 1 ≡ 0 → flat_map f cs ≡ flat_map g cs
  unfolding flat_map
  without [] e = refl
  without (SoundData ∷ cs) e = absurd (omega (arith, times-cons 1 (map local_rank cs) 1))
  without (Property ∷ cs) e = front Property cs refl (without cs (omega (arith, times-cons 0 (map local_rank cs) 1)))
  without (DstIndex ∷ cs) e = front DstIndex cs refl (without cs (omega (arith, times-cons 2 (map local_rank cs) 1)))
  without (EditedMasterInfo ∷ cs) e = front EditedMasterInfo cs refl (without cs (omega (arith, times-cons 3 (map local_rank cs) 1)))
  without (Comments ∷ cs) e = front Comments cs refl (without cs (omega (arith, times-cons 4 (map local_rank cs) 1)))

  abbrev sides : List LocalChunk → List LocalChunk → List ℕ
  sides early late = flat_map g early ++ f SoundData ++ flat_map g late

  later : (d : LocalChunk) (cs : List LocalChunk) → is_sound d ≡ false → flat_map f cs ≡ sides (before cs) (behind cs) → f d ++ flat_map f cs ≡ sides (d ∷ before cs) (behind cs)
  unfolding flat_map
  later d cs other e = rw (same d other, e) (simp append_assoc)

  pub once : (cs : List LocalChunk) → times (map local_rank cs) 1 ≡ 1 → flat_map f cs ≡ sides (before cs) (behind cs)
  unfolding flat_map before behind
  once [] e = absurd (omega (arith, times_none 1))
  once (SoundData ∷ cs) e = ap (λ (l : List ℕ). f SoundData ++ l) (without cs (omega (arith, times-cons 1 (map local_rank cs) 1)))
  once (Property ∷ cs) e = later Property cs refl (once cs (omega (arith, times-cons 0 (map local_rank cs) 1)))
  once (DstIndex ∷ cs) e = later DstIndex cs refl (once cs (omega (arith, times-cons 2 (map local_rank cs) 1)))
  once (EditedMasterInfo ∷ cs) e = later EditedMasterInfo cs refl (once cs (omega (arith, times-cons 3 (map local_rank cs) 1)))
  once (Comments ∷ cs) e = later Comments cs refl (once cs (omega (arith, times-cons 4 (map local_rank cs) 1)))
