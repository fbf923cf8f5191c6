-- What the numbers of DIIN mean. Assumes nothing.
use Rattle.std.specs.Prelude.{ℕ, cond, not, List, map, eqb, get_or}
use Rattle.chunk_names.specs.declared.InfoChunk.{InfoChunk}
use Rattle.chunk_names.specs.declared.InfoChunk.TheVariants.{EditedMasterId, Markers, Artist, Title}
use Rattle.diin_texts.specs.DiinText.{Text}
use Rattle.master_info.specs.declared.pick.ArtistTitleSource.{ArtistTitleSource}
use Rattle.master_info.specs.declared.pick.ArtistTitleSource.TheVariants.{Album, Track, TrackThenAlbum}
use Rattle.meanings.specs.Text.{text_of}

-- the text of three words: whether it is given (0: no), start, length
abbrev pub given_text : List ℕ → Text
given_text words = text_of (not (eqb (get_or words 0 0) 0)) (get_or words 1 0) (get_or words 2 0)

-- 0 is the album's, 1 the track's, any other the track's, then the album's
abbrev pub source_of : ℕ → ArtistTitleSource
source_of number = cond (eqb number 0) Album (cond (eqb number 1) Track TrackThenAlbum)

-- 0 is EMID, 1 all MARK, 2 is DIAR, any other is DITI
abbrev pub info_chunk_of : ℕ → InfoChunk
info_chunk_of number = cond (eqb number 0) EditedMasterId (cond (eqb number 1) Markers (cond (eqb number 2) Artist Title))

abbrev pub info_order_of : List ℕ → List InfoChunk
info_order_of numbers = map info_chunk_of numbers
