-- `from_toc::from_toc` meets its contract. Assumes nothing.
use mathlib.Core.Path.{sym, ◌∙◌}
use borrow.Author.Rules.{rules}
use borrow.Author.Tests.{eq-eqb, ne_eqb}
use Rattle.tree.specs.Tree.{bytes, each}
use Rattle.chunk.proofs.AppendLaws.{none}
use Rattle.track_markers.specs.Program.{from_toc}
use Rattle.track_markers.proofs.from_toc.from_toc.Goals as goal

pub returns-then-p-ne0 : goal.returns-then-p-ne0
unfolding from_toc
returns-then-p-ne0 c = rw (ne_eqb _ _ c.if-p-ne0.true) c.from_source.ensures

pub returns-then-has_program : goal.returns-then-has_program
unfolding from_toc
returns-then-has_program c = rw (eq-eqb _ _ c.if-p-ne0.false, sym c.has_program.ensures ∙ c.if-has_program.true) c.program.ensures

pub returns-else-has_program : goal.returns-else-has_program
unfolding from_toc bytes each
returns-else-has_program c =
    rw (eq-eqb _ _ c.if-p-ne0.false, sym c.has_program.ensures ∙ c.if-has_program.false) (none (search rules) (search rules))
