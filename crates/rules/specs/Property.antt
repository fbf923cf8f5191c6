-- What PROP tells, and the replacement byte: 01's refusals 24 to 29. Assumes nothing.
use Rattle.std.specs.Prelude.{Option, None, Some, Ok, ℕ, ◌+◌, min, Bool, false, not, ◌&&◌, List, [], ◌∷◌, map, eqb, ltb, take}
use Rattle.texts.specs.Text.{printable}
use Rattle.chunk_names.specs.declared.PropertyChunk.{PropertyChunk}
use Rattle.prop_fields.specs.Start.{Start, is_given, start_frame}
use Rattle.prop_fields.specs.declared.layout.ChannelNumbers.{ChannelNumbers}
use Rattle.refusal.specs.Verdict.{Verdict, refuse_if, first_of, when}
use Rattle.refusal.specs.Orders.{property_rank, each_once}
use Rattle.channel_rules.specs.ChannelNumbers.{number_faults}
use Rattle.refusal.specs.declared.verdict.Refusal.TheVariants as refused
use Rattle.build_options.specs.declared.area.Area.{Area}
use Rattle.build_options.specs.declared.options.Options.{Options}
use Rattle.build_options.specs.declared.options.Settings.{Settings}
use Rattle.build_options.specs.Area.{area_positions, unspecified}

-- 24: "Replacement byte outside 0x20 to 0x7E"
abbrev pub replacement_wrong : Option ℕ → Bool
replacement_wrong None = false
replacement_wrong (Some b) = not (printable b)

-- 25: "Unspecified layout: given channel numbers don't number the channels". 26, 27: the first number at fault
unfoldable pub numbers_fault : Area → Option ChannelNumbers → Verdict
numbers_fault a None = Ok tt
numbers_fault a (Some n) =
    when (unspecified a.layout)
    (first_of (refuse_if (not (eqb n.count a.channels)) refused.ChannelNumbersCount ∷ number_faults (take (min n.count 6) n.numbers) ∷ []))

-- the last frame of a day
abbrev pub last_frame_of_day : ℕ
last_frame_of_day = 6_479_999

-- 29: "Start + positions exceeds 6,479,999"; without a start there is nothing to exceed
unfoldable pub start_fault : Area → Start → Verdict
start_fault a start = refuse_if (is_given start && ltb last_frame_of_day (start_frame start + area_positions a)) refused.Start

-- 24 to 29; 28: "Property order isn't each name once"
unfoldable pub property_faults : Area → Options → Settings → List PropertyChunk → Verdict
property_faults a o s order =
    first_of
    (refuse_if (replacement_wrong o.text_replacement) refused.Replacement
    ∷ numbers_fault a o.channel_numbers
    ∷ refuse_if (not (each_once (map property_rank order) 5)) refused.PropertyOrder
    ∷ start_fault a s.start
    ∷ [])
