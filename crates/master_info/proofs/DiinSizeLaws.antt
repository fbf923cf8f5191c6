-- How large DIIN can be, chunk by chunk. Assumes nothing.
use mathlib.Core.Path.{◌≡◌, refl}
use mathlib.Core.Bool.{Bool, true, false, cond, not}
use mathlib.Core.List.{List, []}
use Prim.Native.Nat.{ℕ, ◌+◌, ◌*◌, ◌≤◌}
use native.Mathlib.Nat.{le_trans, mul-le-mul_left}
use native.Mathlib.Omega.{arith}
use lib.Dec.{eqb}
use lib.ListN.{length}
use Rattle.chunk_names.specs.Name.{Name, ascii}
use Rattle.chunk.specs.Chunk.{chunk}
use Rattle.tree.specs.Tree.{bytes}
use Rattle.chunk_names.specs.declared.InfoChunk.{InfoChunk}
use Rattle.chunk_names.specs.declared.InfoChunk.TheVariants.{EditedMasterId, Markers, Artist, Title}
use Rattle.tree.proofs.TreeLaws.{bytes-stop, bytes-leaf}
use Rattle.texts.specs.Extent.{part}
use Rattle.texts.specs.Text.{text_bytes, is_written}
use Rattle.diin_texts.specs.DiinText.{Text, diin_text_data, given_text_bytes, diin_text}
use Rattle.std.specs.Prelude.{None, Some}
use Rattle.texts.specs.declared.text.TextOptions.{TextOptions}
use Rattle.texts.proofs.ExtentLaws.{length_part}
use Rattle.texts.proofs.TextLaws.{extent_short}
use Rattle.diin_texts.proofs.DiinTextLaws.{length-diin-text, diin-text_tree}
use Rattle.master_info.specs.Pick.{of_track, first_present, pick}
use Rattle.master_info.specs.Diin.{marking, markers_of, chosen, artist_of, title_of, emid, info_chunk}
use Rattle.master_info.specs.declared.pick.ArtistTitleSource.{ArtistTitleSource}
use Rattle.master_info.specs.declared.pick.ArtistTitleSource.TheVariants.{Album, Track, TrackThenAlbum}
use Rattle.master_info.specs.declared.diin.Info.{Info}
use Rattle.track_markers.proofs.SizeLaws.{chunk-room, ShortTexts, marks-room}

module _ (n : ℕ) where
  -- a text that is given has at most n values or bytes
  abbrev pub ShortGiven : Text → Type 0
  ShortGiven None = Unit {0}
  ShortGiven (Some e) = e.length ≤ n

  emid-room : (raw : List ℕ) (t : Text) → ShortGiven t → length (bytes (emid raw t)) ≤ 13 + n
  emid-room raw None h = rw (bytes-stop) (omega arith)
  emid-room raw (Some e) h = rw (bytes-leaf) (chunk-room (ascii "EMID") (part raw e) n refl (le_trans (length_part raw e) h))

  text-room : (name : Name) → length name ≡ 4 → (pool : List ℕ) (t : Text) (o : TextOptions) → ShortGiven t → length (diin_text name pool t o) ≤ 18 + n
  unfolding given_text_bytes
  text-room name four pool None o h = omega arith
  text-room name four pool (Some e) o h =
      let text = text_bytes o.rule (part pool e) in
      let room : length (diin_text_data text o) ≤ 5 + n = omega (arith, length-diin-text text o, extent_short o.rule pool e, h) in
      go (is_written o (length text)) (chunk name (diin_text_data text o)) (chunk-room name (diin_text_data text o) (5 + n) four room)
    where
      go : (b : Bool) (c : List ℕ) → length c ≤ 13 + (5 + n) → length (cond b c []) ≤ 18 + n
      go true c fits = omega (arith, fits)
      go false c fits = omega arith

  of_track_short : (has : Bool) (t : Text) → ShortGiven t → ShortGiven (of_track has t)
  of_track_short true t h = h
  of_track_short false t h = tt

  first_short : (a b : Text) → ShortGiven a → ShortGiven b → ShortGiven (first_present a b)
  first_short None b i j = j
  first_short (Some e) b i j = i

  pick-short : (source : ArtistTitleSource) (has : Bool) (track album : Text) → ShortGiven track → ShortGiven album → ShortGiven (pick source has track album)
  pick-short Album has track album i j = j
  pick-short Track has track album i j = of_track_short has track i
  pick-short TrackThenAlbum has track album i j = first_short (of_track has track) album (of_track_short has track i) j

  pub chosen-short : (info : Info) (track album : Text) → ShortGiven track → ShortGiven album → ShortGiven (chosen info track album)
  chosen-short info track album i j =
      let has = not (eqb info.program.source_track 0) in
      go info.artist_title (pick info.artist_title_source has track album) (pick-short info.artist_title_source has track album i j)
    where
      go : (b : Bool) (t : Text) → ShortGiven t → ShortGiven (cond b t None)
      go true t h = h
      go false t h = tt

  -- what DIIN is made of keeps to limits: texts of at most n, and at most k markers
  pub record Limited (k : ℕ) (tracks custom : List ℕ) (info : Info) : Type 0 where
    pub id : ShortGiven info.emid
    pub artists : ShortGiven info.track.artist × ShortGiven info.album.artist
    pub titles : ShortGiven info.track.title × ShortGiven info.album.title
    pub texts : ShortTexts n (markers_of tracks custom info)
    pub few : length (markers_of tracks custom info) ≤ k

  -- the most bytes of each chunk of DIIN, and of a run of at most k MARK
  abbrev pub info_most : ℕ → InfoChunk → ℕ
  info_most k EditedMasterId = 13 + n
  info_most k Markers = (36 + n) * k
  info_most k Artist = 18 + n
  info_most k Title = 18 + n

  pub info-room : (k : ℕ) (pool raw tracks custom : List ℕ) (info : Info) → Limited k tracks custom info
      → (c : InfoChunk) → length (bytes (info_chunk pool raw tracks custom info c)) ≤ info_most k c
  info-room k pool raw tracks custom info l EditedMasterId = emid-room raw info.emid l.id
  info-room k pool raw tracks custom info l Markers =
      le_trans (marks-room n pool raw (marking info) (markers_of tracks custom info) l.texts) (mul-le-mul_left (36 + n) l.few)
  info-room k pool raw tracks custom info l Artist =
      rw (diin-text_tree) (text-room (ascii "DIAR") refl pool (artist_of info) info.text (chosen-short info _ _ l.artists.0 l.artists.1))
  info-room k pool raw tracks custom info l Title =
      rw (diin-text_tree) (text-room (ascii "DITI") refl pool (title_of info) info.text (chosen-short info _ _ l.titles.0 l.titles.1))
