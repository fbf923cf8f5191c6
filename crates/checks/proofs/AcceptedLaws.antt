-- What an accepted verdict promises the writers. Assumes nothing.
use mathlib.Core.Path.{◌≡◌, refl, sym, ◌∙◌}
use mathlib.Core.Bool.{Bool, true, false, not, ◌&&◌, ◌||◌, and-true}
use mathlib.Core.List.{List, map}
use Prim.Native.Nat.{ℕ, ◌+◌, ◌≤◌, ◌<◌, min}
use native.Mathlib.Omega.{arith}
use lib.Dec.{eqb, ltb}
use lib.ListN.{length, get_or, take}
use borrow.Author.Tests.{ltb-false, eqb-false}
use Rattle.chunk_names.specs.Name.{reserved}
use Rattle.chunk_names.specs.declared.LocalChunk.TheVariants.{Property, SoundData, DstIndex, EditedMasterInfo, Comments}
use Rattle.comt.specs.Comment.{written_comments, has_comt}
use Rattle.master_info.specs.Diin.{has_diin}
use Rattle.master_info.specs.declared.diin.Info.{Info}
use Rattle.prop_fields.specs.Layout.{channel_count}
use Rattle.prop_fields.specs.Start.{is_given, start_frame}
use Rattle.refusal.specs.declared.verdict.Refusal.TheVariants as refused
use Rattle.refusal.specs.Verdict.{or_else}
use Rattle.refusal.specs.Below.{any}
use Rattle.row_extents.specs.Extents.{too_large, outside_pool}
use Rattle.refusal.specs.Orders.{property_rank, info_rank, local_rank, times, each_once}
use Rattle.rows.specs.Row.{count_of_rows}
use Rattle.rows.specs.Lengths.{length_wrong, lengths_wrong}
use Rattle.faults.specs.Caller.{is_no_name, name_fault, caller_name, caller_faults}
use Rattle.comment_faults.specs.Comments.{comment_faults}
use Rattle.refusal.specs.Verdict.{Verdict}
use Rattle.std.specs.Prelude.{Ok}
use Rattle.rows.specs.declared.row.Row.TheVariants.{Text, Caller, Track, Marker, Comment}
use Rattle.refusal.proofs.VerdictLaws.{or-accepted, after, if-accepted, neither, inside, none_so, none-refused}
use Rattle.row_extents.proofs.RowFaultLaws.{RowsFit, rows_fit, not-not}
use Rattle.comment_faults.proofs.CommentFaultLaws.{few-written}
use Rattle.build_options.specs.Area.{area_positions, is_dst}
use Rattle.area_rules.specs.Area.{lengths_wanted, longest_playtime, area_fault, lengths_fault, range_fault, area_faults}
use Rattle.build_options.specs.Options.{effective, text_options, info_of, tag_rows, id_row}
use Rattle.rules.specs.Limits.{longest_text, longest_caller_chunk, most_tracks, most_caller_chunks, most_markers, any_number, any_too_large, any_outside, limit_faults}
use Rattle.area_rules.specs.Master.{track_faults}
use Rattle.rules.specs.Property.{replacement_wrong, numbers_fault, last_frame_of_day, start_fault, property_faults}
use Rattle.rules.specs.Info.{info_faults}
use Rattle.local_rules.specs.Local.{repeats, lacks, sound_before_prop, lacks_any, order_faults, local_faults}
use Rattle.build_options.specs.Inputs.{Inputs}
use Rattle.checks.specs.InputVerdict.{given_faults, chunk_faults, verdict}

-- a condition that is met, and a fault that is not
wanted : {a b : Bool} → a ≡ true → (a && b) ≡ false → b ≡ false
wanted on e = rw on at e

named_if : {a b : Bool} → b ≡ true → (a && b) ≡ false → a ≡ false
named_if {a} on e = sym (and-true a) ∙ rw on at e

-- none of six
record NoneOfSix (t u v w y z : Bool) : Type 0 where
  pub a : t ≡ false
  pub b : u ≡ false
  pub c : v ≡ false
  pub d : w ≡ false
  pub e : y ≡ false
  pub f : z ≡ false

none_of_six : (a b c d e f : Bool) → (a || (b || (c || (d || (e || f))))) ≡ false → NoneOfSix a b c d e f
none_of_six a b c d e f h =
    let ha = neither a _ h in
    let hb = neither b _ ha.1 in
    let hc = neither c _ hb.1 in
    let hd = neither d _ hc.1 in
    let he = neither e f hd.1 in
    record { a = ha.0; b = hb.0; c = hc.0; d = hd.0; e = he.0; f = he.1 }

-- each of the names once
once : (ranks : List ℕ) (names : ℕ) → not (each_once ranks names) ≡ false → (rank : ℕ) → rank < names → times ranks rank ≡ 1
unfolding each_once
once ranks names e rank h = not-not (none_so (λ r. not (eqb (times ranks r) 1)) names (go (any (λ r. not (eqb (times ranks r) 1)) names) e) rank h)
  where
    go : (b : Bool) → not (not b) ≡ false → b ≡ false
    go true e = e
    go false e = refl

module _ (x : Inputs) (ok : verdict x ≡ Ok tt) where
  -- the groups of the verdict
  abbrev given : Verdict
  given = given_faults x.options x.pool x.raw x.tracks x.markers x.comments x.callers

  abbrev area : Verdict
  area = area_faults x.area x.lengths

  abbrev tracks : Verdict
  tracks = track_faults x.area x.options (effective x.options) x.tracks

  abbrev property : Verdict
  property = property_faults x.area x.options (effective x.options) x.property_order

  abbrev chunks : Verdict
  chunks =
      chunk_faults x.area x.options (effective x.options) x.info_order x.local_order x.local_count x.pool x.raw x.tracks x.markers x.comments

  given-ok : given ≡ Ok tt
  unfolding verdict
  given-ok = (or-accepted given _ ok).0

  after-given : or_else area (or_else tracks (or_else property chunks)) ≡ Ok tt
  unfolding verdict
  after-given = (or-accepted given _ ok).1

  area-ok : area ≡ Ok tt
  area-ok = (or-accepted area _ after-given).0

  after-tracks : or_else property chunks ≡ Ok tt
  after-tracks = (or-accepted tracks _ (or-accepted area _ after-given).1).1

  property-ok : property ≡ Ok tt
  property-ok = (or-accepted property chunks after-tracks).0

  chunks-ok : chunks ≡ Ok tt
  chunks-ok = (or-accepted property chunks after-tracks).1

  abbrev info : Info
  info = info_of x.area x.options (effective x.options)

  -- whether there is a DSTI
  abbrev has_index : Bool
  has_index = is_dst x.area.sound && x.options.dst_index

  -- the local order, as numbers
  abbrev named : List ℕ
  named = take (min x.local_count 5) (map local_rank x.local_order)

  abbrev turned : Bool
  turned = is_dst x.area.sound && ltb x.area.end x.area.first

  -- the parts of 6 to 12
  area-part : area_fault x.area ≡ Ok tt
  unfolding area_faults
  area-part = (or-accepted (area_fault x.area) _ area-ok).0

  lengths-part : lengths_fault x.area x.lengths ≡ Ok tt
  unfolding area_faults
  lengths-part = (or-accepted (lengths_fault x.area x.lengths) _ (or-accepted (area_fault x.area) _ area-ok).1).0

  range-part : range_fault x.area ≡ Ok tt
  unfolding area_faults
  range-part = (or-accepted (lengths_fault x.area x.lengths) _ (or-accepted (area_fault x.area) _ area-ok).1).1

  -- 6, 7 and 8
  area_tests : (ltb longest_playtime x.area.playtime ≡ false)
      × ((ltb x.area.channels 1 || ltb 6 x.area.channels) ≡ false)
      × (not (eqb (channel_count x.area.layout x.area.channels) x.area.channels) ≡ false)
  unfolding area_fault
  area_tests =
      let six = after (ltb longest_playtime x.area.playtime) refused.Playtime area-part in
      let seven = after (ltb x.area.channels 1 || ltb 6 x.area.channels) refused.Channels six.1 in
      (six.0, seven.0, if-accepted _ refused.ChannelsOfLayout seven.1)

  pub playtime_bound : x.area.playtime ≤ longest_playtime
  playtime_bound = ltb-false longest_playtime x.area.playtime area_tests.0

  pub channels-right : (ltb x.area.channels 1 || ltb 6 x.area.channels) ≡ false
  channels-right = area_tests.1

  pub channels-bound : (1 ≤ x.area.channels) × (x.area.channels ≤ 6)
  channels-bound = inside 1 6 x.area.channels channels-right

  -- a layout names as many channels as there are
  pub channels-named : channel_count x.area.layout x.area.channels ≡ x.area.channels
  channels-named = not-not area_tests.2

  -- 9 and 10
  lengths_tests : ((turned || not (eqb (length x.lengths) (lengths_wanted x.area))) ≡ false) × (lengths_wrong x.lengths ≡ false)
  unfolding lengths_fault
  lengths_tests =
      let nine = after (turned || not (eqb (length x.lengths) (lengths_wanted x.area))) refused.LengthsCount lengths-part in
      (nine.0, if-accepted _ refused.FrameLength nine.1)

  pub lengths-number : length x.lengths ≡ lengths_wanted x.area
  lengths-number = not-not (neither turned _ lengths_tests.0).1

  pub lengths-right : lengths_wrong x.lengths ≡ false
  lengths-right = lengths_tests.1

  pub lengths-bound : (k : ℕ) → k < length x.lengths → (1 ≤ get_or x.lengths k 0) × (get_or x.lengths k 0 ≤ 65_536)
  unfolding lengths_wrong
  lengths-bound k h =
      inside 1 65_536 (get_or x.lengths k 0) (none_so (λ i. length_wrong (get_or x.lengths i 0)) (length x.lengths) lengths-right k h)

  -- 11 and 12: the range has positions, within the playtime
  pub range_inside : (x.area.first < x.area.end) × (x.area.end ≤ x.area.playtime)
  unfolding range_fault
  range_inside =
      let eleven = after (ltb x.area.end x.area.first || ltb x.area.playtime x.area.end) refused.Range range-part in
      let both = neither (ltb x.area.end x.area.first) _ eleven.0 in
      let forward = ltb-false x.area.end x.area.first both.0 in
      let differ = eqb-false x.area.first x.area.end (if-accepted _ refused.EmptyRange eleven.1) in
      (omega (arith, forward, differ), ltb-false x.area.playtime x.area.end both.1)

  -- 1 and 2, of each kind of rows
  large_outside : (any_too_large x.options x.tracks x.markers x.comments x.callers ≡ false)
      × (any_outside x.options (length x.pool) (length x.raw) x.tracks x.markers x.comments x.callers ≡ false)
  unfolding given_faults limit_faults
  large_outside =
      let limits = (or-accepted (limit_faults x.options x.pool x.raw x.tracks x.markers x.comments x.callers) _ given-ok).0 in
      let one = after (any_too_large x.options x.tracks x.markers x.comments x.callers) refused.TooLarge limits in
      (one.0, (after (any_outside x.options (length x.pool) (length x.raw) x.tracks x.markers x.comments x.callers) refused.OutsidePool one.1).0)

  abbrev tags : List ℕ
  tags = tag_rows x.options.album x.options.track

  abbrev emid : List ℕ
  emid = id_row x.options.edited_master_id

  abbrev custom : Bool
  custom = x.options.custom_markers

  not_large : NoneOfSix
      (too_large Text tags any_number longest_text)
      (too_large Text emid any_number longest_text)
      (too_large Track x.tracks most_tracks longest_text)
      (custom && too_large Marker x.markers most_markers longest_text)
      (too_large Comment x.comments any_number longest_text)
      (too_large Caller x.callers most_caller_chunks longest_caller_chunk)
  unfolding any_too_large
  not_large =
      none_of_six
      (too_large Text tags any_number longest_text)
      (too_large Text emid any_number longest_text)
      (too_large Track x.tracks most_tracks longest_text)
      (custom && too_large Marker x.markers most_markers longest_text)
      (too_large Comment x.comments any_number longest_text)
      (too_large Caller x.callers most_caller_chunks longest_caller_chunk)
      large_outside.0

  not_outside : NoneOfSix
      (outside_pool Text tags (length x.pool))
      (outside_pool Text emid (length x.raw))
      (outside_pool Track x.tracks (length x.pool))
      (custom && outside_pool Marker x.markers (length x.raw))
      (outside_pool Comment x.comments (length x.pool))
      (outside_pool Caller x.callers (length x.raw))
  unfolding any_outside
  not_outside =
      none_of_six
      (outside_pool Text tags (length x.pool))
      (outside_pool Text emid (length x.raw))
      (outside_pool Track x.tracks (length x.pool))
      (custom && outside_pool Marker x.markers (length x.raw))
      (outside_pool Comment x.comments (length x.pool))
      (outside_pool Caller x.callers (length x.raw))
      large_outside.1

  pub tags_fit : RowsFit Text tags any_number longest_text (length x.pool)
  tags_fit = rows_fit Text tags _ _ _ not_large.a not_outside.a

  pub emid-fits : RowsFit Text emid any_number longest_text (length x.raw)
  emid-fits = rows_fit Text emid _ _ _ not_large.b not_outside.b

  pub tracks_fit : RowsFit Track x.tracks most_tracks longest_text (length x.pool)
  tracks_fit = rows_fit Track x.tracks _ _ _ not_large.c not_outside.c

  -- given markers count only if they are wanted
  pub markers_fit : custom ≡ true → RowsFit Marker x.markers most_markers longest_text (length x.raw)
  markers_fit on = rows_fit Marker x.markers _ _ _ (wanted on not_large.d) (wanted on not_outside.d)

  pub comments_fit : RowsFit Comment x.comments any_number longest_text (length x.pool)
  comments_fit = rows_fit Comment x.comments _ _ _ not_large.e not_outside.e

  pub callers_fit : RowsFit Caller x.callers most_caller_chunks longest_caller_chunk (length x.raw)
  callers_fit = rows_fit Caller x.callers _ _ _ not_large.f not_outside.f

  -- 4 and 5: a caller's chunk has no name that is the writer's own
  pub callers-named : (k : ℕ) → k < count_of_rows Caller x.callers → reserved (caller_name x.callers k) ≡ false
  unfolding given_faults caller_faults
  callers-named k h =
      let names = (or-accepted (limit_faults x.options x.pool x.raw x.tracks x.markers x.comments x.callers) _ given-ok).1 in
      let one = none-refused (λ i. name_fault (caller_name x.callers i)) (count_of_rows Caller x.callers) names k h in
      if-accepted _ refused.ReservedName (after (is_no_name (caller_name x.callers k)) refused.CallerName one).1

  -- 28 and 29
  property_tests : (not (each_once (map property_rank x.property_order) 5) ≡ false) × (start_fault x.area (effective x.options).start ≡ Ok tt)
  unfolding property_faults
  property_tests =
      let rest = (after (replacement_wrong x.options.text_replacement) refused.Replacement property-ok).1 in
      after (not (each_once (map property_rank x.property_order) 5)) refused.PropertyOrder (or-accepted (numbers_fault x.area x.options.channel_numbers) _ rest).1

  pub property-once : (rank : ℕ) → rank < 5 → times (map property_rank x.property_order) rank ≡ 1
  property-once = once (map property_rank x.property_order) 5 property_tests.0

  pub start-inside : is_given (effective x.options).start ≡ true → start_frame (effective x.options).start + area_positions x.area ≤ last_frame_of_day
  unfolding start_fault
  start-inside given = ltb-false last_frame_of_day _ (wanted given (if-accepted _ refused.Start property_tests.1))

  -- the parts of 30 to 39
  info-part : info_faults x.area info x.info_order x.raw x.markers ≡ Ok tt
  unfolding chunk_faults
  info-part = (or-accepted (info_faults x.area info x.info_order x.raw x.markers) _ chunks-ok).0

  comments-local : (comment_faults x.comments x.pool (text_options x.options) x.area.channels ≡ Ok tt)
      × (local_faults x.pool x.raw x.tracks x.markers x.comments x.info_order info has_index x.local_order x.local_count ≡ Ok tt)
  unfolding chunk_faults
  comments-local =
      or-accepted (comment_faults x.comments x.pool (text_options x.options) x.area.channels) _
      (or-accepted (info_faults x.area info x.info_order x.raw x.markers) _ chunks-ok).1

  -- 30
  pub info-once : info.on ≡ true → (rank : ℕ) → rank < 4 → times (map info_rank x.info_order) rank ≡ 1
  unfolding info_faults
  info-once on = once (map info_rank x.info_order) 4 (after (not (each_once (map info_rank x.info_order) 4)) refused.InfoOrder (rw on at info-part)).0

  -- 36
  pub comments-few : length (written_comments x.pool x.comments (text_options x.options)) ≤ 65_535
  comments-few = few-written x.comments x.pool (text_options x.options) x.area.channels comments-local.0

  -- 37 to 39
  local_tests : ((ltb 5 x.local_count || repeats named) ≡ false)
      × (lacks_any x.pool x.raw x.tracks x.markers x.comments x.info_order info has_index named ≡ false)
      × (sound_before_prop named ≡ false)
  unfolding order_faults
  local_tests =
      let first = after (ltb 5 x.local_count || repeats named) refused.LocalOrderRepeats comments-local.1 in
      let second = after (lacks_any x.pool x.raw x.tracks x.markers x.comments x.info_order info has_index named) refused.LocalOrderLacks first.1 in
      (first.0, second.0, if-accepted _ refused.SoundBeforeProperty second.1)

  pub local-count : x.local_count ≤ 5
  local-count = ltb-false 5 x.local_count (neither (ltb 5 x.local_count) _ local_tests.0).0

  -- a local chunk is named at most once
  pub local-once : (rank : ℕ) → rank < 5 → times named rank ≤ 1
  local-once rank h =
      ltb-false 1 (times named rank) (none_so (λ r. ltb 1 (times named r)) 5 (neither (ltb 5 x.local_count) _ local_tests.0).1 rank h)

  -- PROP is named before the sound
  pub property-first : sound_before_prop named ≡ false
  property-first = local_tests.2

  -- the chunks that will be written are named
  pub property-named : lacks named (local_rank Property) ≡ false
  unfolding lacks_any
  property-named = (neither (lacks named (local_rank Property)) _ local_tests.1).0

  pub sound-named : lacks named (local_rank SoundData) ≡ false
  unfolding lacks_any
  sound-named = (neither (lacks named (local_rank SoundData)) _ (neither (lacks named (local_rank Property)) _ local_tests.1).1).0

  others : ((has_index && lacks named (local_rank DstIndex)) ≡ false)
      × (((lacks named (local_rank EditedMasterInfo) && has_diin x.pool x.raw x.tracks x.markers info x.info_order)
      || (lacks named (local_rank Comments) && has_comt (written_comments x.pool x.comments info.text))) ≡ false)
  unfolding lacks_any
  others =
      neither (has_index && lacks named (local_rank DstIndex)) _
      (neither (lacks named (local_rank SoundData)) _ (neither (lacks named (local_rank Property)) _ local_tests.1).1).1

  pub index-named : has_index ≡ true → lacks named (local_rank DstIndex) ≡ false
  index-named has = wanted has others.0

  pub diin-named : has_diin x.pool x.raw x.tracks x.markers info x.info_order ≡ true → lacks named (local_rank EditedMasterInfo) ≡ false
  diin-named has = named_if has (neither (lacks named (local_rank EditedMasterInfo) && has_diin x.pool x.raw x.tracks x.markers info x.info_order) _ others.1).0

  pub comt-named : has_comt (written_comments x.pool x.comments info.text) ≡ true → lacks named (local_rank Comments) ≡ false
  comt-named has = named_if has (neither (lacks named (local_rank EditedMasterInfo) && has_diin x.pool x.raw x.tracks x.markers info x.info_order) _ others.1).1
