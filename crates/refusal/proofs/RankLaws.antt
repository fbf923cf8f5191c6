-- Orders of names, told by the names' numbers: what `times` and `each_once` of src/orders.rt find in an order is what the definitions of the same names say of its numbers. Assumes nothing.
use mathlib.Core.Path.{◌≡◌, refl, sym, ap, ap₂, ◌∙◌}
use mathlib.Core.Bool.{Bool, true, false, not, ◌||◌, ◌&&◌, cond}
use mathlib.Core.List.{List, [], ◌∷◌, map}
use Prim.Native.Nat.{ℕ, zero, suc, ◌+◌}
use native.Mathlib.Omega.{arith}
use lib.Dec.{eqb}
use denote.Enum.Bare.{sameb}
use denote.Enum.Declared.{tag_of}
use Rattle.std.specs.List.{list_all, count_by}
use Rattle.std.proofs.lemmas.List.Recursion.{is_count_by}
use Rattle.chunk_names.specs.Name.{property_order, info_order}
use Rattle.chunk_names.specs.declared.PropertyChunk.{PropertyChunk}
use Rattle.chunk_names.specs.declared.PropertyChunk.TheVariants.{SampleRate, Channels, CompressionType, AbsoluteStartTime, LoudspeakerConfiguration}
use Rattle.chunk_names.specs.declared.InfoChunk.{InfoChunk}
use Rattle.chunk_names.specs.declared.InfoChunk.TheVariants.{EditedMasterId, Markers, Artist, Title}
use Rattle.chunk_names.specs.declared.LocalChunk.{LocalChunk}
use Rattle.chunk_names.specs.declared.LocalChunk.TheVariants.{Property, SoundData, DstIndex, EditedMasterInfo, Comments}
use Rattle.chunk_names.specs.contracts.PropertyChunk.{the_type as property_type}
use Rattle.chunk_names.specs.contracts.InfoChunk.{the_type as info_type}
use Rattle.chunk_names.specs.contracts.LocalChunk.{the_type as local_type}
use Rattle.refusal.specs.Below.{below, any}
use Rattle.refusal.specs.Orders.{property_rank, info_rank, local_rank, times, each_once}
use Rattle.refusal.proofs.OrderLaws.{times-cons, times_none}
use Rattle.refusal.proofs.Listed.{listed}
use Rattle.refusal.proofs.AnyLaws.{any-front}

-- each is so, where none is not
all-listed : (p : ℕ → Bool) (n : ℕ) (g : ℕ → ℕ) → list_all p (listed n g) ≡ not (any (λ k. not (p (g k))) n)
unfolding below
all-listed p zero g = refl
all-listed p (suc n) g = ap (λ (b : Bool). p (g 0) && b) (all-listed p n (λ k. g (suc k))) ∙ both (p (g 0)) (any (λ k. not (p (g (suc k)))) n) ∙ sym (ap not (any-front (λ k. not (p (g k))) n))
  where
    both : (a b : Bool) → (a && not b) ≡ not (not a || b)
    both true b = refl
    both false b = refl

module _ {A : Type 0} (eq : A → A → Bool) (rank : A → ℕ) (same : (x y : A) → eq x y ≡ eqb (rank x) (rank y)) where
  pub times-ranks : (order : List A) (name : A) → count_by (λ part. eq part name) order ≡ times (map rank order) (rank name)
  times-ranks order name =
      sym (is_count_by (λ (o : List A). times (map rank o) (rank name)) (λ part. eq part name) (times_none (rank name))
      (λ x o. times-cons (rank x) (map rank o) (rank name) ∙ ap (λ (t : Bool). cond t 1 0 + times (map rank o) (rank name)) (sym (same x name)) ∙ either (eq x name) (times (map rank o) (rank name)))
      order)
    where
      either : (t : Bool) (n : ℕ) → cond t 1 0 + n ≡ cond t (1 + n) n
      either true n = refl
      either false n = omega arith

  each-ranks : (order names : List A)
      → list_all (λ name. eqb (count_by (λ part. eq part name) order) 1) names ≡ list_all (λ n. eqb (times (map rank order) n) 1) (map rank names)
  each-ranks order [] = refl
  each-ranks order (x ∷ names) = ap₂ (λ (a b : Bool). a && b) (ap (λ (n : ℕ). eqb n 1) (times-ranks order x)) (each-ranks order names)

  -- names whose numbers are those below n
  pub once-ranks : (order names : List A) (n : ℕ) → map rank names ≡ listed n (λ k. k)
      → list_all (λ name. eqb (count_by (λ part. eq part name) order) 1) names ≡ each_once (map rank order) n
  unfolding each_once
  once-ranks order names n e =
      each-ranks order names
      ∙ ap (list_all (λ n. eqb (times (map rank order) n) 1)) e
      ∙ all-listed (λ n. eqb (times (map rank order) n) 1) n (λ k. k)

-- the derived equality of names is that of their numbers
property_tag : (c : PropertyChunk) → tag_of property_type c ≡ property_rank c
property_tag SampleRate = refl
property_tag Channels = refl
property_tag CompressionType = refl
property_tag AbsoluteStartTime = refl
property_tag LoudspeakerConfiguration = refl

info_tag : (c : InfoChunk) → tag_of info_type c ≡ info_rank c
info_tag EditedMasterId = refl
info_tag Markers = refl
info_tag Artist = refl
info_tag Title = refl

local_tag : (c : LocalChunk) → tag_of local_type c ≡ local_rank c
local_tag Property = refl
local_tag SoundData = refl
local_tag DstIndex = refl
local_tag EditedMasterInfo = refl
local_tag Comments = refl

-- of PROP's order: whether each name is there once
pub property-once : (order : List PropertyChunk)
    → list_all (λ name. eqb (count_by (λ part. sameb property_type part name) order) 1) property_order ≡ each_once (map property_rank order) 5
property-once order = once-ranks (sameb property_type) property_rank (λ x y. ap₂ eqb (property_tag x) (property_tag y)) order property_order 5 refl

-- of DIIN's
pub info-once : (order : List InfoChunk)
    → list_all (λ name. eqb (count_by (λ part. sameb info_type part name) order) 1) info_order ≡ each_once (map info_rank order) 4
info-once order = once-ranks (sameb info_type) info_rank (λ x y. ap₂ eqb (info_tag x) (info_tag y)) order info_order 4 refl

pub local-same : (x y : LocalChunk) → sameb local_type x y ≡ eqb (local_rank x) (local_rank y)
local-same x y = ap₂ eqb (local_tag x) (local_tag y)

-- how often a name is in the local order
pub local-times : (order : List LocalChunk) (name : LocalChunk)
    → count_by (λ part. sameb local_type part name) order ≡ times (map local_rank order) (local_rank name)
local-times = times-ranks (sameb local_type) local_rank local-same
