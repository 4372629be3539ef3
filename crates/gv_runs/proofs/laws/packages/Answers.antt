use Rattle.gv_runs.proofs.PackageLaws.{replies_never_wait, failures_are_defined, crash_leaves, steps_are_of_threads}
use Rattle.gv_runs.proofs.Starting.{calls_start}
use Rattle.gv_runs.proofs.laws.packages.Goals as goal

pub returns : goal.returns
returns c = record {
  replies = replies_never_wait;
  failures = failures_are_defined;
  crash = crash_leaves;
  steps = steps_are_of_threads;
  calls = calls_start;
}
