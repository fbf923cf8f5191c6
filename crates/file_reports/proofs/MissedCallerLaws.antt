-- A caller's chunk is not among the values that are sought: its parent is FRM8, and its name is none of the reserved ones. Assumes nothing.
use mathlib.Core.Path.{◌≡◌, ◌∙◌}
use mathlib.Core.Bool.{Bool, false}
use mathlib.Core.List.{[]}
use Prim.Native.Nat.{ℕ, ◌/◌, ◌<◌}
use native.Mathlib.Omega.{arith}
use lib.ListN.{length, get_or}
use Rattle.chunk_names.specs.Name.{Name, ascii, reserved}
use Rattle.chunk.specs.Rows.{rows}
use Rattle.chunk.proofs.RowsLaws.{length-rows, get_rows}
use Rattle.std.specs.Prelude.{Ok}
use Rattle.faults.specs.Caller.{caller_name}
use Rattle.caller_chunks.specs.Caller.{caller_chunk, caller_chunks}
use Rattle.build_options.specs.Inputs.{Inputs}
use Rattle.checks.specs.InputVerdict.{verdict}
use Rattle.checks.proofs.AcceptedLaws.{callers-named}
use Rattle.file_reports.proofs.FoundLaws.{sought, found, found-each}
use Rattle.file_reports.proofs.MissedLaws.{missed_leaf}
use Rattle.file_reports.proofs.OnceLaws.{none-at}

module _ (x : Inputs) (ok : verdict x ≡ Ok tt) (known : Name → Name → Bool) where
  pub missed_callers : (p n : Name) → ((name : Name) → reserved name ≡ false → sought p n (ascii "FRM8") name ≡ false)
      → found p n known (ascii "FRM8") (caller_chunks x.raw x.callers) ≡ []
  unfolding caller_chunks caller_chunk
  missed_callers p n aside =
      found-each p n known (ascii "FRM8") (caller_chunk x.raw) (rows 3 x.callers)
      ∙ none-at _ [] (rows 3 x.callers) (λ i h. row i (omega (arith, length-rows 3 x.callers)))
    where
      row : (i : ℕ) → i < length x.callers / 3 → found p n known (ascii "FRM8") (caller_chunk x.raw (get_or (rows 3 x.callers) i [])) ≡ []
      row i h =
          rw (get_rows 3 i x.callers h)
          (missed_leaf p n known (ascii "FRM8") (caller_name x.callers i) _ (aside (caller_name x.callers i) (callers-named x ok i h)))
