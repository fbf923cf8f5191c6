-- `diin::diin` meets its contract: a chunk whose size is filled in last, or nothing, as measuring tells. Assumes nothing.
use mathlib.Core.Path.{◌≡◌, sym, ◌∙◌}
use mathlib.Core.Bool.{not, ◌||◌}
use Prim.Native.Nat.{◌-◌, ◌^◌}
use native.Mathlib.Omega.{arith}
use borrow.Author.Rules.{rules}
use lib.Dec.{eqb}
use lib.ListN.{length}
use Rattle.chunk_names.specs.Name.{ascii}
use Rattle.chunk.specs.Append.{moved}
use Rattle.chunk.proofs.AppendLaws.{none}
use Rattle.chunk.proofs.SizeLastLaws.{chunk-size-last}
use Rattle.tree.specs.Tree.{bytes}
use Rattle.tree.proofs.TreeLaws.{bytes-stop, bytes-node}
use Rattle.master_info.specs.Diin.{info_chunks, has_diin, diin}
use Rattle.master_info.proofs.DiinLaws.{size_below, told-by-size}
use Rattle.master_info.proofs.diin.diin.Goals as goal

pub returns-then-not-is_written : goal.returns-then-not-is_written
unfolding diin has_diin
returns-then-not-is_written c =
    let given = c.args.given.now in
    let inside = bytes (info_chunks given.pools.text.now given.pools.bytes.now given.tracks.now given.markers.now c.args.info c.args.order) in
    let is : c.diin_data-measured.result.at ≡ moved 0 (length inside) = rw c.new.ensures at c.diin_data-measured.ensures.place in
    let test = sym c.is_written.ensures ∙ c.if-not-is_written.true in
    let off = rw (is, told-by-size c.args.info.on c.args.info.empty_info (length inside)) at test in
    rw (off, bytes-stop) (none (search rules) (search rules))

pub returns : goal.returns
unfolding diin has_diin
returns c =
    let given = c.args.given.now in
    let inside = bytes (info_chunks given.pools.text.now given.pools.bytes.now given.tracks.now given.markers.now c.args.info c.args.order) in
    let is : c.diin_data-measured.result.at ≡ moved 0 (length inside) = rw c.new.ensures at c.diin_data-measured.ensures.place in
    let test = sym c.is_written.ensures ∙ c.if-not-is_written.false in
    let on = rw (is, told-by-size c.args.info.on c.args.info.empty_info (length inside)) at test in
    let below = size_below c.args.info.on (c.args.info.empty_info || not (eqb (length inside) 0)) (length inside) (2 ^ 64 - 1) on in
    rw (on, bytes-node)
    (chunk-size-last (ascii "DIIN") (omega (arith, below))
    c.name-size_at.ensures c.data_start-from.ensures c.new-2.ensures c.diin_data-end.ensures c.close.ensures)
