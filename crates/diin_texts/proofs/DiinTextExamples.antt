-- A title, worked out by the definitions, with its pad counted and not. Assumes nothing.
use mathlib.Core.Path.{◌≡◌, refl}
use mathlib.Core.Bool.{true, false}
use mathlib.Core.List.{[], ◌∷◌, ◌++◌, flat_map}
use Rattle.chunk.specs.Number.{be}
use Rattle.chunk_names.specs.Name.{ascii}
use Rattle.chunk.specs.Chunk.{pad, chunk, counts}
use Rattle.texts.specs.Extent.{part}
use Rattle.texts.specs.Text.{printable, passes, substitute, text_byte, text_bytes, text_pad, is_written}
use Rattle.diin_texts.specs.DiinText.{diin_text_data, given_text_bytes, diin_text}
use Rattle.std.specs.Prelude.{Some}
use Rattle.texts.proofs.TextExamples.{pool, options}

-- the pad of an odd title, outside the size and inside it
title : diin_text (ascii "DITI") pool (Some (record { start = 3; length = 3 })) (options false)
    ≡ ascii "DITI" ++ (0 ∷ 0 ∷ 0 ∷ 0 ∷ 0 ∷ 0 ∷ 0 ∷ 7 ∷ 0 ∷ 0 ∷ 0 ∷ 3 ∷ []) ++ ascii "odd" ++ (0 ∷ [])
unfolding pool given_text_bytes diin_text_data text_pad counts is_written text_bytes text_byte passes substitute printable part flat_map chunk pad be
title = refl

title-pad-counted : diin_text (ascii "DITI") pool (Some (record { start = 3; length = 3 })) (options true)
    ≡ ascii "DITI" ++ (0 ∷ 0 ∷ 0 ∷ 0 ∷ 0 ∷ 0 ∷ 0 ∷ 8 ∷ 0 ∷ 0 ∷ 0 ∷ 3 ∷ []) ++ ascii "odd" ++ (0 ∷ [])
unfolding pool given_text_bytes diin_text_data text_pad counts is_written text_bytes text_byte passes substitute printable part flat_map chunk pad be
title-pad-counted = refl

-- a text that runs outside the pool is cut; one of which nothing is left is left out
title-cut : diin_text (ascii "DITI") pool (Some (record { start = 5; length = 9 })) (options false)
    ≡ ascii "DITI" ++ (0 ∷ 0 ∷ 0 ∷ 0 ∷ 0 ∷ 0 ∷ 0 ∷ 5 ∷ 0 ∷ 0 ∷ 0 ∷ 1 ∷ []) ++ ascii "d" ++ (0 ∷ [])
unfolding pool given_text_bytes diin_text_data text_pad counts is_written text_bytes text_byte passes substitute printable part flat_map chunk pad be
title-cut = refl

title-empty : diin_text (ascii "DITI") pool (Some (record { start = 6; length = 1 })) (options false) ≡ []
unfolding pool given_text_bytes diin_text_data text_pad counts is_written text_bytes text_byte passes substitute printable part flat_map
title-empty = refl
