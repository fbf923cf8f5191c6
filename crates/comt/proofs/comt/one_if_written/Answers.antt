-- `comt::one_if_written` meets its contract. Assumes nothing.
use mathlib.Core.Path.{◌≡◌, refl, ap, ◌∙◌}
use mathlib.Core.Bool.{Bool, true, false, cond}
use mathlib.Core.List.{[], ◌∷◌}
use lib.ListN.{length}
use Rattle.std.specs.Int.{from_bool}
use Rattle.comt.specs.Comment.{Written, as_written, written_comment}
use Rattle.comt.proofs.comt.one_if_written.Goals as goal

one : (test : Bool) (w : Written) → from_bool test ≡ length (cond test (w ∷ []) [])
one true w = refl
one false w = refl

pub returns : goal.returns
unfolding written_comment as_written
returns c = c.from.ensures ∙ ap from_bool (rw c.text_count.ensures at c.writes.ensures) ∙ one _ _
