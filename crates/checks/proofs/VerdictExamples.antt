-- Verdicts on whole inputs, by computation over the definitions. Assumes nothing.
use mathlib.Core.Path.{◌≡◌, refl}
use mathlib.Core.List.{[], ◌∷◌}
use Rattle.chunk_names.specs.Name.{property_order, info_order, local_order}
use Rattle.prop_fields.specs.declared.compression.Sound.{Sound}
use Rattle.prop_fields.specs.declared.compression.Sound.TheVariants.{Dsd, Dst}
use Rattle.prop_fields.specs.declared.layout.Layout.TheVariants.{Stereo, Unspecified}
use Rattle.std.specs.Prelude.{Some}
use Rattle.refusal.specs.declared.verdict.Refusal.TheVariants as refused
use Rattle.refusal.specs.Below.{below}
use Rattle.refusal.specs.Verdict.{number_of}
use Rattle.refusal.specs.Orders.{times, each_once}
use Rattle.channel_rules.specs.ChannelNumbers.{number_faults}
use Rattle.std.specs.Prelude.{Ok, Err}
use Rattle.rows.specs.Lengths.{lengths_wrong}
use Rattle.build_options.specs.declared.area.Area.{Area}
use Rattle.texts.specs.Extent.{part}
use Rattle.texts.specs.Text.{printable}
use Rattle.row_extents.specs.Extents.{too_large, outside_pool}
use Rattle.rows.specs.Scalars.{has_no_scalar, no_scalars}
use Rattle.faults.specs.Caller.{caller_faults}
use Rattle.comment_faults.specs.Comments.{comment_faults}
use Rattle.build_options.specs.Options.{defaults, effective}
use Rattle.rules.specs.Limits.{any_too_large, any_outside, any_no_scalar, limit_faults}
use Rattle.area_rules.specs.Master.{source_fault, edited_master_fault, track_faults}
use Rattle.rules.specs.Info.{info_faults}
use Rattle.local_rules.specs.Local.{order_faults, lacks_any}
use Rattle.build_options.specs.Inputs.{Inputs}
use Rattle.checks.specs.InputVerdict.{given_faults, chunk_faults, verdict}
use Rattle.area_rules.specs.Area.{area_fault, lengths_fault, range_fault, area_faults}
use Rattle.rules.specs.Property.{numbers_fault, start_fault, property_faults}

-- one position, stereo
abbrev stereo : Sound → Area
stereo sound = record { sound = sound; playtime = 1; channels = 2; layout = Stereo; first = 0; end = 1 }

start-passes : start_fault (stereo Dsd) (Some 6_479_998) ≡ Ok tt
unfolding start_fault
start-passes = refl

start-is-29 : start_fault (stereo Dsd) (Some 6_479_999) ≡ Err refused.Start
unfolding start_fault
start-is-29 = refl

length-passes : area_faults (stereo Dst) (65_536 ∷ []) ≡ Ok tt
unfolding area_faults area_fault lengths_fault range_fault lengths_wrong below
length-passes = refl

length-0-is-10 : area_faults (stereo Dst) (0 ∷ []) ≡ Err refused.FrameLength
unfolding area_faults area_fault lengths_fault range_fault lengths_wrong below
length-0-is-10 = refl

length-65537-is-10 : area_faults (stereo Dst) (65_537 ∷ []) ≡ Err refused.FrameLength
unfolding area_faults area_fault lengths_fault range_fault lengths_wrong below
length-65537-is-10 = refl

-- 5, 5, 1000: the first at fault repeats
repeat_is-27 :
    numbers_fault (record { sound = Dsd; playtime = 1; channels = 3; layout = Unspecified; first = 0; end = 1 })
    (Some (record { count = 3; numbers = 5 ∷ 5 ∷ 1000 ∷ 0 ∷ 0 ∷ 0 ∷ [] }))
    ≡ Err refused.ChannelNumberTwice
unfolding numbers_fault number_faults times below
repeat_is-27 = refl

-- the numbers of these refusals
numbers :
    number_of (start_fault (stereo Dsd) (Some 6_479_999))
    ∷ number_of (area_faults (stereo Dst) (0 ∷ []))
    ∷ number_of (area_faults (stereo Dst) (65_537 ∷ []))
    ∷ number_of
    (numbers_fault (record { sound = Dsd; playtime = 1; channels = 3; layout = Unspecified; first = 0; end = 1 })
    (Some (record { count = 3; numbers = 5 ∷ 5 ∷ 1000 ∷ 0 ∷ 0 ∷ 0 ∷ [] })))
    ∷ []
    ≡ 29 ∷ 10 ∷ 10 ∷ 27 ∷ []
unfolding start_fault area_faults area_fault lengths_fault range_fault lengths_wrong numbers_fault number_faults times below
numbers = refl

-- the plain build: stereo DSD, one position, the defaults; nothing is lent
abbrev plain : Inputs
plain = record {
  area = stereo Dsd;
  options = defaults;
  property_order = property_order;
  info_order = info_order;
  local_order = local_order;
  local_count = 5;
  pool = [];
  raw = [];
  tracks = [];
  markers = [];
  comments = [];
  callers = [];
  lengths = [];
}

plain-accepted : verdict plain ≡ Ok tt
unfolding verdict given_faults limit_faults any_too_large any_outside any_no_scalar too_large outside_pool no_scalars has_no_scalar part defaults caller_faults area_faults area_fault lengths_fault lengths_wrong range_fault below track_faults source_fault edited_master_fault effective property_faults numbers_fault start_fault printable times each_once chunk_faults info_faults comment_faults lacks_any order_faults
plain-accepted = refl
