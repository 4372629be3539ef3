-- The worked runs, by computation.
use Rattle.std.proofs.Common.{refl}
use Rattle.gv_runs.specs.Examples.{CounterRows, MirrorRows}

pub counter_rows : CounterRows
counter_rows = record {
  shaped = refl;
  before = refl;
  races = refl;
  faulty = refl;
  history = refl;
  nothing_more = refl;
  no_crash = refl;
  counts = refl;
  loses_one = refl;
  no_call_before_the_boot = refl;
  no_argument = refl;
  no_thread = refl;
  no_disk = refl;
  dropped = refl;
  crashes = refl;
  one_object = refl;
}

pub mirror_rows : MirrorRows
mirror_rows = record {
  shaped = refl;
  one_fails = refl;
  marks = refl;
  fails = refl;
  only_one_fails = refl;
  defined = refl;
  recovers = refl;
  waits = refl;
  goes_on = refl;
  no_such_block = refl;
  numbered = refl;
}
