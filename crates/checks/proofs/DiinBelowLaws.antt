-- An accepted build's DIIN is far below what a size can tell. Assumes nothing.
use mathlib.Core.Path.{◌≡◌, refl}
use mathlib.Core.Bool.{Bool, true, false, cond, not, ◌&&◌, ◌||◌, and-true}
use mathlib.Core.List.{List, [], ◌∷◌, map}
use Prim.Native.Nat.{ℕ, ◌+◌, ◌-◌, ◌*◌, ◌/◌, ◌^◌, ◌≤◌}
use native.Mathlib.Omega.{arith}
use lib.Dec.{eqb, ltb}
use lib.ListN.{length, get_or, length-map}
use borrow.Author.Tests.{lt-ltb}
use Rattle.tree.specs.Tree.{bytes}
use Rattle.chunk.specs.Rows.{rows}
use Rattle.chunk_names.specs.declared.InfoChunk.{InfoChunk}
use Rattle.chunk_names.specs.declared.InfoChunk.TheVariants.{EditedMasterId, Markers, Artist, Title}
use Rattle.diin_texts.specs.DiinText.{Text}
use Rattle.std.specs.Prelude.{None, Some}
use Rattle.chunk.proofs.RowsLaws.{length-rows, length_mapped}
use Rattle.tree.proofs.TreeLaws.{bytes-each}
use Rattle.tracks.specs.Track.{span_of, spans}
use Rattle.track_markers.specs.Program.{from_toc}
use Rattle.markers.specs.Custom.{custom_of, customs}
use Rattle.master_info.specs.Diin.{markers_of, info_chunk, info_chunks, has_diin}
use Rattle.master_info.specs.declared.diin.Info.{Info}
use Rattle.markers.proofs.AllLaws.{rows_all}
use Rattle.track_markers.proofs.SizeLaws.{ShortText, ShortTexts, ShortTitles, toc_short, toc_few}
use Rattle.master_info.proofs.DiinSizeLaws.{ShortGiven, Limited, info_most, info-room}
use Rattle.refusal.specs.Below.{below}
use Rattle.refusal.specs.Orders.{info_rank}
use Rattle.refusal.proofs.OrderLaws.{info_rank_low, once-room}
use Rattle.std.specs.Prelude.{Ok}
use Rattle.rows.specs.declared.row.Row.TheVariants as row
use Rattle.row_extents.proofs.RowFaultLaws.{RowsFit}
use Rattle.texts.specs.declared.extent.Extent.{Extent}
use Rattle.build_options.specs.Options.{id_text, text_extent, effective, info_of}
use Rattle.rules.specs.Limits.{longest_text, most_tracks}
use Rattle.build_options.specs.Inputs.{Inputs}
use Rattle.checks.specs.InputVerdict.{verdict}
use Rattle.checks.proofs.AcceptedLaws.{tags_fit, emid-fits, tracks_fit, markers_fit, info-once}

given-short : (t : Text) → (text_extent t).length ≤ longest_text → ShortGiven longest_text t
given-short None h = tt
given-short (Some e) h = h

id-short : (written : Bool) (e : Extent) → e.length ≤ longest_text → ShortGiven longest_text (id_text written e)
id-short true e h = h
id-short false e h = tt

-- the titles of rows of tracks, and the texts of rows of markers
titles-short : (tracks : List ℕ) {most pool : ℕ} → RowsFit row.Track tracks most longest_text pool → ShortTitles longest_text (spans tracks)
unfolding spans rows span_of
titles-short tracks fit = rows_all (λ s. s.title.length ≤ longest_text) span_of 4 (length tracks / 4) tracks fit.short

customs-short : (markers : List ℕ) {most pool : ℕ} → RowsFit row.Marker markers most longest_text pool → ShortTexts longest_text (customs markers)
unfolding customs rows custom_of
customs-short markers fit = rows_all (λ m. ShortText longest_text m.text) custom_of 4 (length markers / 4) markers fit.short

and_left : (a b : Bool) → (a && b) ≡ true → a ≡ true
and_left true b h = refl
and_left false b h = h

-- how many markers tracks make at most: the program's start, a start and a stop each
abbrev pub most_made : ℕ
most_made = 1 + 2 * most_tracks

-- the most bytes of each chunk of DIIN, by its number
abbrev info_mosts : ℕ → ℕ
info_mosts r = get_or (map (info_most longest_text most_made) (EditedMasterId ∷ Markers ∷ Artist ∷ Title ∷ [])) r 0

by_number : (c : InfoChunk) → info_mosts (info_rank c) ≡ info_most longest_text most_made c
by_number EditedMasterId = refl
by_number Markers = refl
by_number Artist = refl
by_number Title = refl

module _ (x : Inputs) (ok : verdict x ≡ Ok tt) where
  abbrev info : Info
  info = info_of x.area x.options (effective x.options)

  -- the markers, given or made from tracks
  texts : ShortTexts longest_text (markers_of x.tracks x.markers info)
  unfolding markers_of
  texts = go x.options.custom_markers refl
    where
      go : (b : Bool) → x.options.custom_markers ≡ b → ShortTexts longest_text (cond b (customs x.markers) (from_toc info.program (spans x.tracks)))
      go true on = customs-short x.markers (markers_fit x ok on)
      go false off = toc_short longest_text info.program (spans x.tracks) (titles-short x.tracks (tracks_fit x ok))

  -- how many; given ones are at most 65,535
  few : length (markers_of x.tracks x.markers info) ≤ most_made
  unfolding markers_of customs spans
  few = go x.options.custom_markers refl
    where
      go : (b : Bool) → x.options.custom_markers ≡ b → length (cond b (customs x.markers) (from_toc info.program (spans x.tracks))) ≤ most_made
      go true on = rw (length-map, length-rows) (omega (arith, (markers_fit x ok on).few))
      go false off =
          let made : length (from_toc info.program (spans x.tracks)) ≤ most_made =
          omega (arith, toc_few info.program (spans x.tracks), length_mapped span_of 4 x.tracks, (tracks_fit x ok).few) in
          made

  -- what DIIN is made of keeps to the limits
  pub limited : Limited longest_text most_made x.tracks x.markers info
  limited = record {
    id = id-short x.options.edited_master_id_written x.options.edited_master_id ((emid-fits x ok).short 0 (omega arith));
    artists = (given-short info.track.artist ((tags_fit x ok).short 2 (omega arith)), given-short info.album.artist ((tags_fit x ok).short 0 (omega arith)));
    titles = (given-short info.track.title ((tags_fit x ok).short 3 (omega arith)), given-short info.album.title ((tags_fit x ok).short 1 (omega arith)));
    texts = texts;
    few = few;
  }

  -- the bytes of one of its chunks, or of the run of MARK
  abbrev chunk_bytes : InfoChunk → List ℕ
  chunk_bytes c = bytes (info_chunk x.pool x.raw x.tracks x.markers info c)

  one-low : (c : InfoChunk) → length (chunk_bytes c) ≤ info_mosts (info_rank c)
  one-low c = rw (by_number c) (info-room longest_text most_made x.pool x.raw x.tracks x.markers info limited c)

  -- where info is on, each name is there once (30)
  pub diin-low : info.on ≡ true → length (bytes (info_chunks x.pool x.raw x.tracks x.markers info x.info_order)) ≤ 2 ^ 38
  unfolding below
  diin-low on =
      rw (bytes-each)
      (omega (arith, once-room info_rank chunk_bytes info_mosts one-low 4 info_rank_low x.info_order (λ r h. omega (arith, info-once x ok on r h))))

  -- so whether there is a DIIN is 01's rule alone
  pub diin-rule : has_diin x.pool x.raw x.tracks x.markers info x.info_order
      ≡ (info.on && (info.empty_info || not (eqb (length (bytes (info_chunks x.pool x.raw x.tracks x.markers info x.info_order))) 0)))
  unfolding has_diin
  diin-rule = go info.on refl
    where
      size : ℕ
      size = length (bytes (info_chunks x.pool x.raw x.tracks x.markers info x.info_order))

      holds : Bool
      holds = info.empty_info || not (eqb size 0)

      go : (on : Bool) → info.on ≡ on → (on && (holds && ltb size (2 ^ 64 - 1))) ≡ (on && holds)
      go true on = rw (lt-ltb size (2 ^ 64 - 1) (omega (arith, diin-low on)), and-true)
      go false off = refl

  -- and one that is written is one of info on
  pub written_low : has_diin x.pool x.raw x.tracks x.markers info x.info_order ≡ true
      → length (bytes (info_chunks x.pool x.raw x.tracks x.markers info x.info_order)) ≤ 2 ^ 38
  unfolding has_diin
  written_low has = diin-low (and_left info.on _ has)
