-- `text_bytes::has_no_text` meets its contract. Assumes nothing.
use mathlib.Core.Path.{◌≡◌}
use mathlib.Core.Bool.{not}
use lib.ListN.{get_or}
use Rattle.texts.specs.Text.{passes}
use Rattle.refusal.specs.Below.{any}
use Rattle.faults.proofs.text_bytes.has_no_text.Given as goal

abbrev pub invariant-loop-byte : goal.invariant-loop-byte
invariant-loop-byte l = l.found ≡ any (λ k. not (passes l.rule (get_or l.bytes k 0))) l.byte-index
