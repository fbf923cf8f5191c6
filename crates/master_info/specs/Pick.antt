-- Whose artist and title DIIN has (01: "Artist and title come from track texts (only with a source track), album texts, or the first of these present. A given
-- text, though empty, is present"). Assumes nothing.
use Rattle.std.specs.Prelude.{Bool, cond, None, Some}
use Rattle.diin_texts.specs.DiinText.{Text}
use Rattle.master_info.specs.declared.pick.ArtistTitleSource.{ArtistTitleSource}
use Rattle.master_info.specs.declared.pick.ArtistTitleSource.TheVariants.{Album, Track, TrackThenAlbum}

-- a track's text: none without a source track
abbrev pub of_track : Bool → Text → Text
of_track hasSource track = cond hasSource track None

abbrev pub first_present : Text → Text → Text
first_present None b = b
first_present (Some e) b = Some e

abbrev pub pick : ArtistTitleSource → Bool → Text → Text → Text
pick Album hasSource track album = album
pick Track hasSource track album = of_track hasSource track
pick TrackThenAlbum hasSource track album = first_present (of_track hasSource track) album
