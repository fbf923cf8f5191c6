-- `border::exceeds` meets its contract. Assumes nothing.
use mathlib.Core.Path.{refl, ◌∙◌}
use Prim.Native.Nat.{◌+◌}
use native.Mathlib.Omega.{arith}
use lib.Dec.{ltb}
use Rattle.std.proofs.Common.{rules, tests}
use Rattle.std.proofs.lemmas.Iterator.{YieldsList-from_range}
use Rattle.std.proofs.lemmas.Iterator.Search.{any_from_yields_List}
use Rattle.refusal.proofs.AnyLaws.{any-range}
use Rattle.single_words.specs.Word.{word_of}
use Rattle.words.specs.Border.{exceeds}
use Rattle.words.proofs.border.exceeds.Goals as goal

pub returns : goal.returns
unfolding exceeds
returns c =
    any_from_yields_List (λ k. ltb c.args.most (word_of c.args.words.now (c.args.first + k))) _ _ _ c.any.ensures.ran
    (YieldsList-from_range 0 c.args.count c.args.count refl (omega arith)) (λ x b q k. search (rules, tests))
    ∙ any-range _ _
