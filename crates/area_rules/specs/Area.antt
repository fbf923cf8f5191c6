-- The area and its range: 01's refusals 6 to 12. Assumes nothing.
use Rattle.std.specs.Prelude.{ℕ, cond, not, ◌&&◌, ◌||◌, List, [], ◌∷◌, eqb, ltb, length}
use Rattle.prop_fields.specs.Layout.{channel_count}
use Rattle.refusal.specs.Verdict.{Verdict, refuse_if, first_of}
use Rattle.rows.specs.Lengths.{lengths_wrong}
use Rattle.refusal.specs.declared.verdict.Refusal.TheVariants as refused
use Rattle.build_options.specs.declared.area.Area.{Area}
use Rattle.build_options.specs.Area.{area_positions, is_dst}

-- the longest playtime of an area
abbrev pub longest_playtime : ℕ
longest_playtime = 1_151_999

-- how many lengths are to be given: one a position for DST, none for DSD
abbrev pub lengths_wanted : Area → ℕ
lengths_wanted a = cond (is_dst a.sound) (area_positions a) 0

-- 6: "Playtime exceeds 1,151,999". 7: "Channels aren't 1 to 6". 8: "Stereo, ThreeTwo, FivePointOne don't have 2, 5, 6 channels" (an unspecified layout names as many
-- as there are, up to six)
unfoldable pub area_fault : Area → Verdict
area_fault a =
    first_of
    (refuse_if (ltb longest_playtime a.playtime) refused.Playtime
    ∷ refuse_if (ltb a.channels 1 || ltb 6 a.channels) refused.Channels
    ∷ refuse_if (not (eqb (channel_count a.layout a.channels) a.channels)) refused.ChannelsOfLayout
    ∷ [])

-- 9: "DST: lengths don't number end − first, or first exceeds end; DSD: they don't number 0". 10: "A length isn't 1 to 65,536"
unfoldable pub lengths_fault : Area → List ℕ → Verdict
lengths_fault a lengths =
    first_of
    (refuse_if ((is_dst a.sound && ltb a.end a.first) || not (eqb (length lengths) (lengths_wanted a))) refused.LengthsCount
    ∷ refuse_if (lengths_wrong lengths) refused.FrameLength
    ∷ [])

-- 11: "First exceeds end, or end playtime". 12: "First equals end"
unfoldable pub range_fault : Area → Verdict
range_fault a =
    first_of
    (refuse_if (ltb a.end a.first || ltb a.playtime a.end) refused.Range
    ∷ refuse_if (eqb a.first a.end) refused.EmptyRange
    ∷ [])

-- 6 to 12
unfoldable pub area_faults : Area → List ℕ → Verdict
area_faults a lengths = first_of (area_fault a ∷ lengths_fault a lengths ∷ range_fault a ∷ [])
