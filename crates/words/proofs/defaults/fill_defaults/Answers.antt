-- `defaults::fill_defaults` meets its contract. Assumes nothing.
use mathlib.Core.Path.{◌≡◌, refl}
use native.Mathlib.Omega.{arith}
use borrow.Author.Rules.{rules}
use lib.ListN.{length}
use Rattle.words.specs.Defaults.{default_words}
use Rattle.chunk.proofs.AppendLaws.{copied}
use Rattle.words.proofs.defaults.fill_defaults.Goals as goal

many : length default_words ≡ 67
unfolding default_words
many = refl

pub returns : goal.returns
returns c =
    copied c.min-n.result c.min-n.result {part = c.copy_from_slice.new.self} {p = 0} (search rules) (omega arith) (omega (arith, c.min-n.ensures, many)) refl
    (rw (← c.default_words-defaults.ensures) c.copy_from_slice.ensures.after) (search rules) (omega (arith, many))
