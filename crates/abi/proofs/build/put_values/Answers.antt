-- `build::put_values` meets its contract. Assumes nothing.
use mathlib.Core.Path.{refl}
use native.Mathlib.Omega.{arith}
use borrow.Author.Rules.{rules}
use Rattle.chunk.proofs.AppendLaws.{copied}
use Rattle.abi.proofs.build.put_values.Goals as goal

pub returns : goal.returns
returns c =
    (copied c.min-n.result c.min-n.result {part = c.copy_from_slice.new.self} {a = 0} {b = 3} {p = 0} (search rules) (omega arith) (search rules) refl
    c.copy_from_slice.ensures.after (search rules) (search rules)).buffer
