-- The goals that a check leaves.
use mathlib.Core.Path.{◌≡◌}
use native.Mathlib.Nat.{le_antisymm}
use native.Mathlib.Numerals.{add-one}
use native.Mathlib.Omega.{arith}
use lib.ListN.{length}
use borrow.Author.Rules.{rules}
use Rattle.chunk.proofs.AppendLaws.{◌then◌, none}
use Rattle.dst.specs.Unit.{sizes}
use Rattle.dst_index.specs.Index.{entry_of, joined, index}
use Rattle.dst.proofs.StartLaws.{start-zero}
use Rattle.dst.proofs.UnitLaws.{start-next}
use Rattle.dst_index.proofs.IndexLaws.{joined-more}
use Rattle.dst_index.proofs.index.index.Goals as goal

pub loop-length-init : goal.loop-length-init
unfolding joined
loop-length-init c = record {
  room = search rules;
  next = rw (start-zero (sizes c.args.crc c.args.lengths.now)) (omega (arith, c.saturating_add-at.ensures));
  entries = none (search rules) (search rules);
}

pub loop-length-preserved : goal.loop-length-preserved
loop-length-preserved c =
    let i = c.loop-length.length-index in
    let now = c.loop-length.invariant in
    let next = start-next c.args.crc c.args.lengths.now i c.loop-length-test.true in
    record {
      room = search rules;
      next = rw add-one (omega (arith, next, c.saturating_add-at-in-loop-length.ensures, c.unit_size.ensures, now.next));
      entries = rw (add-one, joined-more (entry_of c.args.crc c.saturating_add-at.result c.args.lengths.now) i, ← now.next) (now.entries then c.entry-c.ensures);
    }

pub returns : goal.returns
unfolding index
returns c =
    let all : c.loop-length.length-index ≡ length c.args.lengths.now = le_antisymm (search rules) (search rules) in
    rw (all, c.saturating_add-at.ensures, c.shift.ensures) at c.loop-length.invariant.entries
