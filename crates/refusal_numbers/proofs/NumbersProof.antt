-- The proof of `Numbered` (specs/Numbers.antt): each check by its numbers, then the checks joined. Assumes nothing.
use mathlib.Core.List.{List}
use mathlib.Core.Bool.{Bool}
use Prim.Native.Nat.{ℕ}
use Rattle.std.specs.Prelude.{Option, None, Some}
use Rattle.chunk_names.specs.Name.{Name}
use Rattle.chunk_names.specs.declared.InfoChunk.{InfoChunk}
use Rattle.chunk_names.specs.declared.LocalChunk.{LocalChunk}
use Rattle.chunk_names.specs.declared.PropertyChunk.{PropertyChunk}
use Rattle.texts.specs.declared.text.TextOptions.{TextOptions}
use Rattle.texts.specs.declared.text.TextRule.{TextRule}
use Rattle.rows.specs.declared.row.Row.TheVariants as row
use Rattle.rows.specs.Row.{count_of_rows}
use Rattle.rows.specs.Durations.{short_track, short_tracks}
use Rattle.prop_fields.specs.declared.layout.ChannelNumbers.{ChannelNumbers}
use Rattle.master_info.specs.declared.diin.Info.{Info}
use Rattle.channel_rules.specs.ChannelNumbers.{number_fault, number_faults}
use Rattle.faults.specs.Caller.{name_fault, caller_name, caller_faults}
use Rattle.faults.specs.Marks.{marker_fault, marker_faults}
use Rattle.comment_faults.specs.Comments.{comment_fault, comment_faults}
use Rattle.room_rules.specs.Room.{room_faults}
use Rattle.build_options.specs.declared.area.Area.{Area}
use Rattle.build_options.specs.declared.options.Options.{Options}
use Rattle.build_options.specs.declared.options.Settings.{Settings}
use Rattle.build_options.specs.Inputs.{Inputs}
use Rattle.rules.specs.Limits.{limit_faults}
use Rattle.rules.specs.Property.{numbers_fault, start_fault, property_faults}
use Rattle.rules.specs.Info.{info_faults}
use Rattle.area_rules.specs.Area.{area_fault, lengths_fault, range_fault, area_faults}
use Rattle.area_rules.specs.Master.{source_fault, master_area_fault, master_tracks_fault, master_options_fault, edited_master_fault, track_faults}
use Rattle.local_rules.specs.Local.{order_faults, local_faults}
use Rattle.checks.specs.InputVerdict.{given_faults, chunk_faults, verdict}
use Rattle.read_rules.specs.declared.format.SoundFormat.{SoundFormat}
use Rattle.read_rules.specs.Fault.{format_fault}
use Rattle.file_read.specs.Read.{Request, read_verdict, lent_fault}
use Rattle.assemble.specs.Build.{build_verdict, room_fault}
use Rattle.refusal_numbers.specs.Numbers.{Within, Numbered}
use Rattle.refusal_numbers.proofs.WithinLaws.{within_none, within_if, within-or, within-when, within_first}

-- 1 to 3, 4 and 5
limits : (o : Options) (pool raw tracks markers comments callers : List ℕ) → Within 1 41 (limit_faults o pool raw tracks markers comments callers)
unfolding limit_faults
limits o pool raw tracks markers comments callers = search (within-or, within_if) depth 12

name : (n : Name) → Within 1 41 (name_fault n)
name n = search (within-or, within_if) depth 12

callers : (cs : List ℕ) → Within 1 41 (caller_faults cs)
unfolding caller_faults
callers cs = within_first (λ k. name_fault (caller_name cs k)) (λ k. name (caller_name cs k)) (count_of_rows row.Caller cs)

given : (o : Options) (pool raw tracks markers comments cs : List ℕ) → Within 1 41 (given_faults o pool raw tracks markers comments cs)
unfolding given_faults
given o pool raw tracks markers comments cs = search (within-or, limits, callers)

-- 6 to 12
area : (a : Area) (lengths : List ℕ) → Within 1 41 (area_faults a lengths)
unfolding area_faults area_fault lengths_fault range_fault
area a lengths = search (within-or, within_if) depth 12

-- 13 to 23
short : (tracks : List ℕ) → Within 1 41 (short_tracks tracks)
unfolding short_tracks
short tracks = within_first (short_track tracks) (λ k. search (within_if)) (count_of_rows row.Track tracks)

tracks : (a : Area) (o : Options) (s : Settings) (ts : List ℕ) → Within 1 41 (track_faults a o s ts)
unfolding track_faults source_fault edited_master_fault master_area_fault master_tracks_fault master_options_fault
tracks a o s ts = search (within-or, within_if, within-when, short) depth 16

-- 24 to 29
numbers : (ns : List ℕ) → Within 1 41 (number_faults ns)
unfolding number_faults
numbers ns = within_first (number_fault ns) (λ k. search (within-or, within_if) depth 12) _

given_numbers : (a : Area) (n : Option ChannelNumbers) → Within 1 41 (numbers_fault a n)
unfolding numbers_fault
given_numbers a None = within_none
given_numbers a (Some n) = search (within-or, within_if, within-when, numbers) depth 16

property : (a : Area) (o : Options) (s : Settings) (order : List PropertyChunk) → Within 1 41 (property_faults a o s order)
unfolding property_faults start_fault
property a o s order = search (within-or, within_if, given_numbers) depth 16

-- 30 to 33, 34 to 36, 37 to 39
marks : (markers raw : List ℕ) (rule : TextRule) (first end : ℕ) → Within 1 41 (marker_faults markers raw rule first end)
unfolding marker_faults
marks markers raw rule first end = within_first (marker_fault markers raw rule first end) (λ k. search (within-or, within_if) depth 12) _

info : (a : Area) (i : Info) (order : List InfoChunk) (raw markers : List ℕ) → Within 1 41 (info_faults a i order raw markers)
unfolding info_faults
info a i order raw markers = search (within-or, within_if, within-when, marks) depth 16

comments : (cs pool : List ℕ) (options : TextOptions) (channels : ℕ) → Within 1 41 (comment_faults cs pool options channels)
unfolding comment_faults
comments cs pool options channels = within_first (comment_fault cs pool options channels) (λ k. search (within-or, within_if) depth 12) _

locals : (pool raw ts markers cs : List ℕ) (order : List InfoChunk) (i : Info) (dsti : Bool) (local : List LocalChunk) (count : ℕ)
    → Within 1 41 (local_faults pool raw ts markers cs order i dsti local count)
unfolding order_faults
locals pool raw ts markers cs order i dsti local count = search (within-or, within_if) depth 12

chunks : (a : Area) (o : Options) (s : Settings) (info_order : List InfoChunk) (local_order : List LocalChunk) (local_count : ℕ) (pool raw ts markers cs : List ℕ)
    → Within 1 41 (chunk_faults a o s info_order local_order local_count pool raw ts markers cs)
unfolding chunk_faults
chunks a o s info_order local_order local_count pool raw ts markers cs = search (within-or, info, comments, locals)

-- all of them
checked : (x : Inputs) → Within 1 41 (verdict x)
unfolding verdict
checked x = search (within-or, given, area, tracks, property, chunks) depth 12

room : (header trailer h t : ℕ) → Within 1 41 (room_faults header trailer h t)
unfolding room_faults
room header trailer h t = search (within-or, within_if) depth 12

build : (x : Inputs) (header trailer : List ℕ) → Within 1 41 (build_verdict x header trailer)
build x header trailer = within-or (verdict x) (room_fault x header trailer) (checked x) (room _ _ _ _)

query : (f : SoundFormat) (lengths : List ℕ) (header trailer : ℕ) → Within 42 42 (format_fault f lengths header trailer)
unfolding format_fault
query f lengths header trailer = search (within_if)

format : (f : SoundFormat) (lengths : List ℕ) (header trailer : ℕ) → Within 42 43 (format_fault f lengths header trailer)
unfolding format_fault
format f lengths header trailer = search (within_if)

read : (q : Request) (n : ℕ) → Within 42 43 (read_verdict q n)
read q n = within-or _ (lent_fault q n) (format q.format q.lengths _ _) (search (within_if))

pub numbered : Numbered
numbered = record { build = build; query = query; read = read }
