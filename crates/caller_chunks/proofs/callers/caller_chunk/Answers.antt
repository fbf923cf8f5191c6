-- `callers::caller_chunk` meets its contract. Assumes nothing.
use mathlib.Core.Path.{◌≡◌}
use Prim.Native.Nat.{◌-◌}
use borrow.Author.Rules.{rules}
use lib.ListN.{take, drop, get_or}
use Rattle.tree.proofs.TreeLaws.{bytes-leaf}
use Rattle.texts.specs.Extent.{part}
use Rattle.texts.specs.declared.extent.Extent.{Extent}
use Rattle.texts.proofs.ExtentLaws.{part_places}
use Rattle.caller_chunks.specs.Caller.{caller_chunk}
use Rattle.caller_chunks.proofs.callers.caller_chunk.Goals as goal

pub returns : goal.returns
unfolding caller_chunk
returns c =
    let name : c.word.result ≡ get_or c.args.row.now 0 0 = search rules in
    let start : c.word-2.result ≡ get_or c.args.row.now 1 0 = search rules in
    let size : c.word-3.result ≡ get_or c.args.row.now 2 0 = search rules in
    let e : Extent = record { start = c.word-2.result; length = c.word-3.result } in
    let whole : take (c.end.result - c.first.result) (drop c.first.result c.args.raw.now) ≡ part c.args.raw.now e = rw (c.first.ensures, c.end.ensures) (part_places c.args.raw.now e) in
    rw (bytes-leaf, ← name, ← start, ← size, ← whole, ← c.name_of-name.ensures) c.chunk.ensures
