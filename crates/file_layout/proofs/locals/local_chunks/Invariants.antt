-- `locals::local_chunks` meets its contract. The loop's invariant: of the first names, those on the side are appended, and `passed` says whether the sound is
-- among them. Assumes nothing.
use mathlib.Core.Path.{◌≡◌}
use lib.ListN.{take}
use Rattle.chunk.specs.Append.{Appended}
use Rattle.build_options.specs.Inputs.{inputs_of}
use Rattle.file_tree.specs.Parts.{parts}
use Rattle.file_tree.specs.Sides.{locals_bytes}
use Rattle.file_tree.specs.Steps.{has_sound, side}
use Rattle.file_layout.proofs.locals.local_chunks.Given as goal

abbrev pub invariant-loop-name : goal.invariant-loop-name
invariant-loop-name l = record {
  passed : l.passed ≡ has_sound (take l.name-index l.name-items);
  written : Appended l.initial.out l.initial.c.at (locals_bytes (parts (inputs_of l.inputs)) l.base (side l.behind (take l.name-index l.name-items))) l.out l.c.at;
}
