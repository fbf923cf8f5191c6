-- `head::frte` meets its contract: a chunk whose size is filled in last. Assumes nothing.
use mathlib.Core.Path.{◌≡◌}
use native.Mathlib.Omega.{arith}
use lib.ListN.{length, length-append}
use Rattle.chunk.proofs.NumberLaws.{length-be}
use borrow.Author.Rules.{rules}
use Rattle.dst.specs.Head.{rate, frte}
use Rattle.dst.proofs.head.frte.Goals as goal

pub returns : goal.returns
unfolding frte rate
returns c = let six : length (rate c.args.frames) ≡ 6 = simp (length-append, length-be) in
    c.chunk_of.ensures _ (omega (arith, six)) (search rules)
