-- The worked instance of one DSD frame holds, by computation. Assumes nothing.
use mathlib.Core.Path.{refl}
use Rattle.worked_reads.specs.WorkedDsd.{dsd_instance, WorkedDsd}
use Rattle.worked_reads.proofs.Opened.{definitions}
use Rattle.worked_reads.proofs.InstanceLaws.{Computed, worked_build, worked_calls, worked}

pub computed : Computed dsd_instance
unfolding definitions
computed = record {
  built = search;
  recorded = search;
  reads = search;
  numbers = refl;
  details = refl;
  none_missed = refl;
  required_names_lem = refl;
  all_names_lem = refl;
}

pub worked-dsd : WorkedDsd (worked_build dsd_instance computed) (worked_calls dsd_instance computed)
worked-dsd = worked dsd_instance computed
