-- Steps of a walk over the order of the local chunks: which names are on one side of the sound.
-- Only contracts of private functions cite these; no promise of a public function does. Assumes nothing.
use Rattle.std.specs.Prelude.{Bool, true, false, not, ◌||◌, List, [], ◌∷◌}
use Rattle.chunk_names.specs.declared.LocalChunk.{LocalChunk}
use Rattle.file_tree.specs.Sides.{is_sound, before, behind}

-- whether the sound is among them
unfoldable pub has_sound : List LocalChunk → Bool
has_sound [] = false
has_sound (c ∷ cs) = is_sound c || has_sound cs

-- the names on one side of the sound
abbrev pub side : Bool → List LocalChunk → List LocalChunk
side false cs = before cs
side true cs = behind cs

-- whether a name is on that side: the sound was passed before it, or neither passed nor met
abbrev pub on_side : Bool → Bool → Bool → Bool
on_side false passed sound = not (passed || sound)
on_side true passed sound = passed
