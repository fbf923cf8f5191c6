-- The goals that a check leaves.
use mathlib.Core.List.{flat_map}
use Rattle.std.proofs.Common.{rules, ◌<◌, length, add-one}
use Rattle.chunk.proofs.AppendLaws.{◌then◌, none}
use Rattle.chunk.proofs.ListLaws.{flat_map-take}
use Rattle.texts.specs.Text.{text_byte, text_bytes}
use Rattle.texts.proofs.text.text_values.Goals as goal

pub loop-value-init : goal.loop-value-init
unfolding text_bytes flat_map
loop-value-init c = none (search rules) (search rules)

pub loop-value-preserved : goal.loop-value-preserved
unfolding text_bytes
loop-value-preserved c = let more : c.loop-value.value-index < length c.args.values.now = search rules in
    rw (add-one, flat_map-take (text_byte c.args.rule) c.args.values.now c.loop-value.value-index 0 more) (c.loop-value.invariant then c.text_byte-c.ensures)
