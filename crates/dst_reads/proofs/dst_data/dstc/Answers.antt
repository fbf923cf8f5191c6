-- `dst_data::dstc` meets its contract. Assumes nothing.
use mathlib.Core.Logic.{inl, inr, ⊎_elim}
use Rattle.dst_reads.proofs.FillLaws.{dstc-unseen}
use Rattle.dst_reads.proofs.dst_data.dstc.Goals as goal

pub returns-then-w-ge16 : goal.returns-then-w-ge16
returns-then-w-ge16 c = rw c.pass.ensures (dstc-unseen _ c.args.w c.args.out.now (⊎_elim inl (λ p. inr p.1) c.if-w-ge16.either))

pub returns-else-w-ge16 : goal.returns-else-w-ge16
returns-else-w-ge16 c = rw (← c.dstc_bytes.ensures) c.put.ensures
