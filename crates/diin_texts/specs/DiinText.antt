-- The artist and the title of DIIN (01: "DIAR and DITI are a u32 count and bytes, the pad inside the size if pad-counted"). Assumes nothing.
use Rattle.std.specs.Prelude.{ℕ, cond, List, [], ◌++◌, length, Option, None, Some}
use Rattle.chunk_names.specs.Name.{Name}
use Rattle.chunk.specs.Chunk.{chunk, counts}
use Rattle.tree.specs.Tree.{Chunks, stop, leaf}
use Rattle.texts.specs.Extent.{part}
use Rattle.texts.specs.Text.{text_bytes, text_pad, is_written}
use Rattle.texts.specs.declared.text.TextOptions.{TextOptions}
use Rattle.texts.specs.declared.extent.Extent.{Extent}

-- an extent of the text pool, if a text is given; a given one, though empty, is present
abbrev pub Text : Type 0
Text = Option Extent

-- the data of DIAR and DITI: a converted text with its count, and the pad if it is counted
unfoldable pub diin_text_data : List ℕ → TextOptions → List ℕ
diin_text_data text o = counts 4 [] text ++ text_pad o (length text)

-- DIAR or DITI of a converted text: nothing if it is empty, unless empty text is on
unfoldable pub given_text_bytes : Name → List ℕ → TextOptions → List ℕ
given_text_bytes name text o = cond (is_written o (length text)) (chunk name (diin_text_data text o)) []

-- DIAR or DITI: nothing if there is no text
abbrev pub diin_text : Name → List ℕ → Text → TextOptions → List ℕ
diin_text name pool None o = []
diin_text name pool (Some text) o = given_text_bytes name (text_bytes o.rule (part pool text)) o

-- the same as chunks of a tree
unfoldable pub given_text_chunk : Name → List ℕ → TextOptions → Chunks
given_text_chunk name text o = cond (is_written o (length text)) (leaf name (diin_text_data text o) stop) stop

abbrev pub diin_text_chunk : Name → List ℕ → Text → TextOptions → Chunks
diin_text_chunk name pool None o = stop
diin_text_chunk name pool (Some text) o = given_text_chunk name (text_bytes o.rule (part pool text)) o

-- what the old reader is to get of DIAR and DITI: the count and the converted text
abbrev pub diin_text_value : List ℕ → List ℕ
diin_text_value text = counts 4 [] text
