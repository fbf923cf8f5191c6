-- The proof of `EveryExportedRefusal` (specs/Refusals.antt). Assumes nothing.
use mathlib.Core.Path.{◌≡◌, refl}
use mathlib.Core.List.{List, [], ◌∷◌}
use Prim.Native.Nat.{ℕ}
use native.Mathlib.Omega.{arith}
use Rattle.chunk.specs.Append.{overlay}
use Rattle.std.specs.Prelude.{Ok, Err}
use Rattle.refusal.specs.Verdict.{Verdict}
use Rattle.build_answer.specs.Answer.{Answer}
use Rattle.build_answer.specs.Answer.{build_number, build_values}
use Rattle.sound_reads.specs.declared.place.Positions.{Positions}
use Rattle.word_builds.specs.Build.{BuildsUnless}
use Rattle.words.specs.Border.{words_fault}
use Rattle.read_rules.specs.declared.format.SoundFormat.{SoundFormat}
use Rattle.read_rules.specs.Fault.{format_fault}
use Rattle.read_rules.specs.Needed.{needed}
use Rattle.read_answer.specs.Answer.{ReadAnswer}
use Rattle.read_answer.specs.Answer.{query_number, query_answer, read_number, read_value}
use Rattle.file_read.specs.Read.{Reads}
use Rattle.file_query.specs.Query.{query_of}
use Rattle.abi.specs.Reads.{Queried}
use Rattle.refusal_numbers.specs.Numbers.{Within}
use Rattle.refusal_numbers.proofs.NumbersProof.{numbered}
use Rattle.exported_reads.specs.Callers.{ExportedBuild, inputs_by, ExportedRead}
use Rattle.exported_reads.specs.Refusals.{RefusedBuild, RefusedRead, EveryExportedRefusal}
use Rattle.exported_reads.proofs.NumberLaws.{exported_numbered, refused-build, refused-read}

module _ (e : ExportedBuild) where
  by_answer : (r : Answer) → BuildsUnless (words_fault e.words) (inputs_by e) e.header_before e.header_buffer e.trailer_before e.trailer_buffer r
      → e.number ≡ build_number r → e.values ≡ overlay e.values_before 0 (build_values r) → ¬ (e.number ≡ 0) → RefusedBuild e
  by_answer (Ok b) promise number told refused = absurd (refused number)
  by_answer (Err r) promise number told refused =
      let stays =
      refused-build (inputs_by e) e.header_before e.header_buffer e.trailer_before e.trailer_buffer _
      (exported_numbered e.words (inputs_by e) e.header_before e.trailer_before) r promise in
      record {
        least = rw number stays.least;
        most = rw number stays.most;
        refusal = r;
        refused = stays.refused;
        numbered = number;
        told = told;
        header = stays.header;
        trailer = stays.trailer;
      }

  build : ¬ (e.number ≡ 0) → RefusedBuild e
  build refused = by_answer e.promise.answer e.promise.promise e.promise.number e.promise.values refused

query-by : (v : Verdict) → Within 42 42 v → (p : Positions) (n : ℕ) → n ≡ query_number (query_answer v p) → ¬ (n ≡ 0) → n ≡ 42
query-by (Ok tt) within p n number refused = absurd (refused number)
query-by (Err r) within p n number refused = omega (arith, number, within.least r refl, within.most r refl)

query : (f : SoundFormat) (lengths : List ℕ) (header trailer offset room : ℕ) (values : List ℕ) (n : ℕ)
    → Queried (query_of f lengths header trailer offset room) values n → ¬ (n ≡ 0) → n ≡ 42
unfolding query_of
query f lengths header trailer offset room values n queried refused =
    query-by (format_fault f lengths header trailer) (numbered.query f lengths header trailer) (needed f lengths header offset room) n queried.number refused

module _ (c : ExportedRead) where
  read-by : (r : ReadAnswer) → Reads c.request c.out c.last r → c.number ≡ read_number r → c.value ≡ read_value r ∷ [] → ¬ (c.number ≡ 0) → RefusedRead c
  read-by (Ok count) promise number value refused = absurd (refused number)
  read-by (Err r) promise number value refused =
      let unread = refused-read c.request c.out c.last r promise in
      record {
        least = rw number unread.least;
        most = rw number unread.most;
        refusal = r;
        refused = unread.refused;
        numbered = number;
        told = value;
        buffer = unread.buffer;
      }

  read : ¬ (c.number ≡ 0) → RefusedRead c
  read refused = read-by c.promise.answer c.promise.promise c.promise.number c.promise.only refused

pub every-exported-refusal : EveryExportedRefusal
every-exported-refusal = record { build = build; query = query; read = read }
