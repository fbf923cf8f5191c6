-- What DIIN tells: 01's refusals 30 to 33. Assumes nothing.
use Rattle.std.specs.Prelude.{None, Some, ℕ, Bool, false, not, List, [], ◌∷◌, map}
use Rattle.texts.specs.Extent.{part}
use Rattle.chunk_names.specs.declared.InfoChunk.{InfoChunk}
use Rattle.texts.specs.declared.text.TextRule.TheVariants.{Remove}
use Rattle.diin_texts.specs.DiinText.{Text}
use Rattle.master_info.specs.declared.diin.Info.{Info}
use Rattle.refusal.specs.Verdict.{Verdict, refuse_if, first_of, when}
use Rattle.refusal.specs.Orders.{info_rank, each_once}
use Rattle.faults.specs.TextBytes.{has_no_text}
use Rattle.faults.specs.Marks.{marker_faults}
use Rattle.refusal.specs.declared.verdict.Refusal.TheVariants as refused
use Rattle.build_options.specs.declared.area.Area.{Area}

-- 31: "EMID is on with a byte outside 0x20 to 0x7E"; D2 does not widen it
abbrev pub id_wrong : List ℕ → Text → Bool
id_wrong raw None = false
id_wrong raw (Some e) = has_no_text Remove (part raw e)

-- 30: "Info on (30 to 33): info order isn't each name once". 32, 33: the first given marker at fault
unfoldable pub info_faults : Area → Info → List InfoChunk → List ℕ → List ℕ → Verdict
info_faults a info order raw markers =
    when info.on
    (first_of
    (refuse_if (not (each_once (map info_rank order) 4)) refused.InfoOrder
    ∷ refuse_if (id_wrong raw info.emid) refused.EmidByte
    ∷ when info.custom_markers (marker_faults markers raw info.text.rule a.first a.end)
    ∷ []))
