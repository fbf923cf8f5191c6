-- The reader's value of DIAR and DITI is the data without the pad. Assumes nothing.
use mathlib.Core.Path.{◌≡◌, refl}
use mathlib.Core.Bool.{true, ◌||◌}
use mathlib.Core.List.{List, []}
use Prim.Native.Nat.{ℕ, ◌^◌, ◌<◌}
use lib.ListN.{length}
use Rattle.chunk_names.specs.Name.{Name, ascii, same}
use Rattle.tree.specs.Value.{value}
use Rattle.tree.proofs.ValueLaws.{counted-text}
use Rattle.diin_texts.specs.DiinText.{diin_text_data, diin_text_value}
use Rattle.texts.specs.declared.text.TextOptions.{TextOptions}

-- DIAR and DITI, with the pad in the data and without it
pub diin-text-value : (name : Name) → (same name (ascii "DIAR") || same name (ascii "DITI")) ≡ true
    → (text : List ℕ) (o : TextOptions) → length text < 256 ^ 4 → value (ascii "DIIN") name (diin_text_data text o) ≡ diin_text_value text
unfolding value diin_text_data same
diin-text-value name h text o small = rw h (counted-text 4 [] text _ 0 refl small)
