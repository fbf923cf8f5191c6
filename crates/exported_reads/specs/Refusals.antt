-- WHAT A CALLER OF THE EXPORTED FUNCTIONS LEARNS OF A REFUSAL: any number but 0 is 01's number of one, 1 to 41 of a build, 42 of a query, 42 or 43 of a read, with its detail in the
-- values, and no lent buffer for the file's bytes was altered. Assumes nothing.
use Rattle.std.specs.Prelude.{◌≡◌, Err, List, [], ◌∷◌, ℕ, ◌≤◌, length}
use Rattle.chunk.specs.Append.{overlay}
use Rattle.refusal.specs.Verdict.{refusal_number, refusal_detail, or_else}
use Rattle.refusal.specs.declared.verdict.Refusal.{Refusal}
use Rattle.words.specs.Border.{words_fault}
use Rattle.assemble.specs.Build.{build_verdict}
use Rattle.read_rules.specs.declared.format.SoundFormat.{SoundFormat}
use Rattle.file_query.specs.Query.{query_of}
use Rattle.file_read.specs.Read.{read_verdict}
use Rattle.abi.specs.Reads.{Queried}
use Rattle.exported_reads.specs.Callers.{ExportedBuild, inputs_by, ExportedRead}

-- a build that was refused, by a fault of its words or as 01 says, with this number; the values have the detail and two zeros, as many as they had room for
pub record RefusedBuild (e : ExportedBuild) : Type 0 where
  pub least : 1 ≤ e.number
  pub most : e.number ≤ 41
  pub refusal : Refusal
  pub refused : or_else (words_fault e.words) (build_verdict (inputs_by e) e.header_before e.trailer_before) ≡ Err refusal
  pub numbered : e.number ≡ refusal_number refusal
  pub told : e.values ≡ overlay e.values_before 0 (refusal_detail refusal ∷ 0 ∷ 0 ∷ [])
  pub header : e.header_buffer ≡ e.header_before
  pub trailer : e.trailer_buffer ≡ e.trailer_before

-- a read that was refused
pub record RefusedRead (c : ExportedRead) : Type 0 where
  pub least : 42 ≤ c.number
  pub most : c.number ≤ 43
  pub refusal : Refusal
  pub refused : read_verdict c.request (length c.out) ≡ Err refusal
  pub numbered : c.number ≡ refusal_number refusal
  pub told : c.value ≡ refusal_detail refusal ∷ []
  pub buffer : c.last ≡ c.out

-- THE STATEMENT
pub record EveryExportedRefusal : Type 0 where
  pub build : (e : ExportedBuild) → ¬ (e.number ≡ 0) → RefusedBuild e
  pub query : (f : SoundFormat) (lengths : List ℕ) (header trailer offset room : ℕ) (values : List ℕ) (n : ℕ)
      → Queried (query_of f lengths header trailer offset room) values n → ¬ (n ≡ 0) → n ≡ 42
  pub read : (c : ExportedRead) → ¬ (c.number ≡ 0) → RefusedRead c
