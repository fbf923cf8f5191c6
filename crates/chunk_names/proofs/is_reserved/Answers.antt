-- `is_reserved` meets its contract: the table holds the nine names of the definition. Assumes nothing.
use mathlib.Core.Path.{◌≡◌, refl}
use native.Mathlib.Numerals.{add-one}
use borrow.Author.Rules.{rules}
use Rattle.chunk_names.specs.Name.{among, reserved_names}
use Rattle.chunk_names.proofs.NameLaws.{among-take}
use Rattle.chunk_names.proofs.is_reserved.Goals as goal

pub loop-reserved-init : goal.loop-reserved-init
unfolding among
loop-reserved-init c = refl

pub loop-reserved-preserved : goal.loop-reserved-preserved
unfolding reserved_names
loop-reserved-preserved c = rw (add-one, among-take _ _ _ c.loop-reserved-test.true) (cc)

pub returns : goal.returns
unfolding reserved_names
returns c =
    let done : c.loop-reserved.reserved-index ≡ 9 = search rules in
    rw done at c.loop-reserved.invariant
