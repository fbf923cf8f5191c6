-- `text::text_values` meets its contract. The loop's invariant: the bytes of the values so far are appended. Assumes nothing.
use Rattle.std.proofs.Common.{take}
use Rattle.chunk.specs.Append.{Appended}
use Rattle.texts.specs.Text.{text_bytes}
use Rattle.texts.proofs.text.text_values.Given as goal

abbrev pub invariant-loop-value : goal.invariant-loop-value
invariant-loop-value l = Appended l.initial.out l.initial.c.at (text_bytes l.rule (take l.value-index l.values)) l.out l.c.at
