-- The goals that a check leaves.
use mathlib.Core.List.{flat_map}
use Prim.Native.Nat.{◌<◌}
use borrow.Author.Rules.{rules}
use lib.ListN.{length}
use Rattle.chunk_names.specs.declared.LocalChunk.TheVariants.{Property}
use Rattle.chunk.proofs.AppendLaws.{none}
use Rattle.file_tree.specs.Steps.{has_sound}
use Rattle.file_tree.proofs.SideLaws.{passed-next}
use Rattle.file_layout.proofs.WriteLaws.{side-none, side_then}
use Rattle.file_layout.proofs.locals.local_chunks.Goals as goal
use Rattle.file_layout.proofs.locals.local_chunks.Goals.{then-on_side, else-on_side}

pub loop-name-init : goal.loop-name-init
unfolding has_sound flat_map
loop-name-init c = record {
  passed = search rules;
  written = rw (side-none c.args.behind) (none (search rules) (search rules));
}

pub loop-name-preserved : goal.loop-name-preserved
loop-name-preserved c = let names = c.given_names-name-items.result.now in
    let more : c.loop-name.name-index < length names = c.loop-name-test.true in
    let told = c.loop-name.invariant in record {
      passed = rw (passed-next names c.loop-name.name-index Property more, ← told.passed, ← c.is_sound-sound.ensures);
      written = elim c.if-on_side.branch [
        | then-on_side w ↦
            rw (w.out-is, w.c-is)
            (side_then _ names _ Property more _ told.passed c.is_sound-sound.ensures c.on_side.ensures w.if-on_side.true told.written w.local_chunk-c.ensures).1
        | else-on_side w ↦
            rw (w.out-is, w.c-is)
            (side_then _ names _ Property more _ told.passed c.is_sound-sound.ensures c.on_side.ensures w.if-on_side.false told.written (none (search rules) (search rules))).1
      ];
    }
