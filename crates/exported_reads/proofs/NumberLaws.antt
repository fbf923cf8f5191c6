-- What a number says of the answer of an exported build and read. Assumes nothing.
use mathlib.Core.Path.{◌≡◌}
use mathlib.Core.List.{List}
use Prim.Native.Nat.{ℕ, ◌≤◌}
use native.Mathlib.Omega.{arith}
use lib.ListN.{length}
use Rattle.std.specs.Prelude.{Ok, Err}
use Rattle.refusal.specs.Verdict.{Verdict, refusal_number, or_else}
use Rattle.refusal.specs.declared.verdict.Refusal.{Refusal}
use Rattle.build_options.specs.Inputs.{Inputs}
use Rattle.words.specs.Border.{field_faults, name_faults, words_fault}
use Rattle.assemble.specs.Build.{build_verdict, Outcome}
use Rattle.file_read.specs.Read.{Request, read_verdict, Reading, Reads}
use Rattle.refusal_numbers.specs.Numbers.{Within}
use Rattle.refusal_numbers.proofs.WithinLaws.{within-or, within_if}
use Rattle.refusal_numbers.proofs.NumbersProof.{numbered}

-- the words' faults are numbered too
words-numbered : (w : List ℕ) → Within 1 41 (words_fault w)
unfolding words_fault field_faults name_faults
words-numbered w = search (within-or, within_if) depth 20

pub exported_numbered : (w : List ℕ) (x : Inputs) (h t : List ℕ) → Within 1 41 (or_else (words_fault w) (build_verdict x h t))
exported_numbered w x h t = within-or (words_fault w) _ (words-numbered w) (numbered.build x h t)

-- a refused build: the refusal is the verdict's, and the buffers are as they were
pub record Stays (v : Verdict) (h h' t t' : List ℕ) (r : Refusal) : Type 0 where
  pub least : 1 ≤ refusal_number r
  pub most : refusal_number r ≤ 41
  pub refused : v ≡ Err r
  pub header : h' ≡ h
  pub trailer : t' ≡ t

pub refused-build : (x : Inputs) (h h' t t' : List ℕ) (v : Verdict) → Within 1 41 v → (r : Refusal) → Outcome x v h h' t t' (Err r) → Stays v h h' t t' r
refused-build x h h' t t' (Ok tt) within r o = let a = o.answers in let z : ◌≡◌ {A = ℕ} 0 1 = cc in absurd (omega arith)
refused-build x h h' t t' (Err f) within r o =
    let a = o.answers in
    let same : ◌≡◌ {A = Verdict} (Err f) (Err r) = cc in
    record { least = within.least r same; most = within.most r same; refused = same; header = o.header; trailer = o.trailer }

-- and a refused read's
pub record Unread (v : Verdict) (out last : List ℕ) (r : Refusal) : Type 0 where
  pub least : 42 ≤ refusal_number r
  pub most : refusal_number r ≤ 43
  pub refused : v ≡ Err r
  pub buffer : last ≡ out

pub refused-read : (q : Request) (out last : List ℕ) (r : Refusal) → Reads q out last (Err r) → Unread (read_verdict q (length out)) out last r
refused-read q out last r promise = by (read_verdict q (length out)) (numbered.read q (length out)) promise
  where
    by : (v : Verdict) → Within 42 43 v → Reading v q out last (Err r) → Unread v out last r
    by (Ok tt) within o = let a = o.answer in let z : ◌≡◌ {A = ℕ} 0 1 = cc in absurd (omega arith)
    by (Err f) within o =
        let a = o.answer in
        let same : ◌≡◌ {A = Verdict} (Err f) (Err r) = cc in
        record { least = within.least r same; most = within.most r same; refused = same; buffer = o.buffer }
