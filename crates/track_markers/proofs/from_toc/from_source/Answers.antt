-- `from_toc::from_source` meets its contract: the row that is lent on is the source track's. Assumes nothing.
use mathlib.Core.Path.{sym, ◌∙◌}
use borrow.Author.Rules.{rules}
use Rattle.tree.specs.Tree.{bytes, each}
use Rattle.chunk.proofs.AppendLaws.{none}
use Rattle.track_markers.proofs.SourceLaws.{source_past, source_row}
use Rattle.track_markers.proofs.from_toc.from_source.Goals as goal
use Rattle.track_markers.proofs.from_toc.from_source.Goals.{else-p-via-then-p+else-left, else-p-via-else-p}

pub returns-then-tracks-number : goal.returns-then-tracks-number
unfolding bytes each
returns-then-tracks-number c = rw (source_past c.args.p c.args.tracks.now (search rules)) (none (search rules) (search rules))

pub returns-then-left : goal.returns-then-left
returns-then-left c = let row = source_row c.args.p c.args.tracks.now c.requires (search rules) in
    rw (row, c.if-p.true, sym c.clipped_order-left.ensures.left_value ∙ c.if-left.true) c.program.ensures

pub returns-else-p : goal.returns-else-p
unfolding bytes each
returns-else-p c = let row = source_row c.args.p c.args.tracks.now c.requires (search rules) in
    elim c.else-p.branch [
      | else-p-via-then-p+else-left w ↦ rw (row, w.if-p.true, sym c.clipped_order-left.ensures.left_value ∙ w.if-left.false) (none (search rules) (search rules))
      | else-p-via-else-p w ↦ rw (row, w.if-p.false) (none (search rules) (search rules))
    ]
