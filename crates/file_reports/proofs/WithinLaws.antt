-- The names by which the recording is told are each sought in one local chunk. Assumes nothing.
use mathlib.Core.Path.{◌≡◌, refl, sym, ap, ◌∙◌}
use mathlib.Core.Bool.{true, false, cond, ◌||◌}
use mathlib.Core.List.{[]}
use Prim.Native.Nat.{ℕ}
use native.Mathlib.Omega.{arith}
use lib.Dec.{eqb}
use borrow.Author.Tests.{eqb-true}
use Rattle.chunk_names.specs.Name.{Name, ascii, same, reserved_names, reserved}
use Rattle.chunk_names.specs.declared.LocalChunk.{LocalChunk}
use Rattle.chunk_names.specs.declared.LocalChunk.TheVariants.{Property, SoundData, DstIndex, EditedMasterInfo, Comments}
use Rattle.prop_fields.specs.declared.compression.Sound.{Sound}
use Rattle.prop_fields.specs.declared.compression.Sound.TheVariants.{Dsd, Dst}
use Rattle.refusal.specs.Orders.{local_rank}
use Rattle.file_reports.proofs.FoundLaws.{sought}
use Rattle.file_reports.proofs.LocalLaws.{local_name}
use Rattle.file_reports.proofs.CallerNameLaws.{none-among}

-- FRM8, FVER and a name that a caller may use are not sought, and of the local chunks only one or a chunk in it
pub record Within (s : Sound) (d : LocalChunk) (p n : Name) : Type 0 where
  pub form : sought p n [] (ascii "FRM8") ≡ false
  pub version : sought p n (ascii "FRM8") (ascii "FVER") ≡ false
  pub callers : (name : Name) → reserved name ≡ false → sought p n (ascii "FRM8") name ≡ false
  pub local : (c : LocalChunk) → (sought p n (ascii "FRM8") (local_name s c) || same (local_name s c) p) ≡ eqb (local_rank c) (local_rank d)

-- of a local chunk: it, or a chunk in it, is sought just where it is d
abbrev Local : Sound → LocalChunk → Name → Name → LocalChunk → Type 0
Local s d p n c = (sought p n (ascii "FRM8") (local_name s c) || same (local_name s c) p) ≡ eqb (local_rank c) (local_rank d)

pub in_property : (s : Sound) (n : Name) → Within s Property (ascii "PROP") n
unfolding same
in_property s n = record {
  form = refl;
  version = refl;
  callers = λ name free. refl;
  local = λ c. elim c as (λ (k : LocalChunk). Local s Property (ascii "PROP") n k) [
    | Property ↦ refl
    | SoundData ↦ elim s as (λ (t : Sound). Local t Property (ascii "PROP") n SoundData) [ Dsd ↦ refl | Dst ↦ refl ]
    | DstIndex ↦ refl
    | EditedMasterInfo ↦ refl
    | Comments ↦ refl
  ];
}

pub is-index : (s : Sound) → Within s DstIndex (ascii "FRM8") (ascii "DSTI")
unfolding same reserved_names
is-index s = record {
  form = refl;
  version = refl;
  callers = λ name free. none-among name reserved_names free 5 (omega arith);
  local = λ c. elim c as (λ (k : LocalChunk). Local s DstIndex (ascii "FRM8") (ascii "DSTI") k) [
    | Property ↦ refl
    | SoundData ↦ elim s as (λ (t : Sound). Local t DstIndex (ascii "FRM8") (ascii "DSTI") SoundData) [ Dsd ↦ refl | Dst ↦ refl ]
    | DstIndex ↦ refl
    | EditedMasterInfo ↦ refl
    | Comments ↦ refl
  ];
}

pub is-dsd : Within Dsd SoundData (ascii "FRM8") (ascii "DSD ")
unfolding same reserved_names
is-dsd = record {
  form = refl;
  version = refl;
  callers = λ name free. none-among name reserved_names free 3 (omega arith);
  local = λ c. elim c as (λ (k : LocalChunk). Local Dsd SoundData (ascii "FRM8") (ascii "DSD ") k) [ Property ↦ refl | SoundData ↦ refl | DstIndex ↦ refl | EditedMasterInfo ↦ refl | Comments ↦ refl ];
}

pub in_dst : (n : Name) → Within Dst SoundData (ascii "DST ") n
unfolding same
in_dst n = record {
  form = refl;
  version = refl;
  callers = λ name free. refl;
  local = λ c. elim c as (λ (k : LocalChunk). Local Dst SoundData (ascii "DST ") n k) [ Property ↦ refl | SoundData ↦ refl | DstIndex ↦ refl | EditedMasterInfo ↦ refl | Comments ↦ refl ];
}

-- a local chunk, by its rank
chunk_at : ℕ → LocalChunk
chunk_at rank =
    cond (eqb rank 0) Property (cond (eqb rank 1) SoundData (cond (eqb rank 2) DstIndex (cond (eqb rank 3) EditedMasterInfo Comments)))

at_rank : (c : LocalChunk) → chunk_at (local_rank c) ≡ c
unfolding chunk_at
at_rank Property = refl
at_rank SoundData = refl
at_rank DstIndex = refl
at_rank EditedMasterInfo = refl
at_rank Comments = refl

pub same_rank : (c d : LocalChunk) → eqb (local_rank c) (local_rank d) ≡ true → c ≡ d
same_rank c d e = sym (at_rank c) ∙ ap chunk_at (eqb-true (local_rank c) (local_rank d) e) ∙ at_rank d
