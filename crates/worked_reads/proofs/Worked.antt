-- The worked instance of two DST frames holds, by computation. Assumes nothing.
use mathlib.Core.Path.{refl}
use Rattle.worked_reads.specs.WorkedReads.{dst_instance, WorkedReads}
use Rattle.worked_reads.proofs.Opened.{definitions}
use Rattle.worked_reads.proofs.InstanceLaws.{Computed, worked_build, worked_calls, worked}

pub computed : Computed dst_instance
unfolding definitions
computed = record {
  built = search;
  recorded = search;
  reads = search;
  numbers = refl;
  details = refl;
  none_missed = refl;
  required_names_lem = refl;
  all_names_lem = refl;
}

pub worked-reads : WorkedReads (worked_build dst_instance computed) (worked_calls dst_instance computed)
worked-reads = worked dst_instance computed
