-- The worked Sums and runs, by computation.
use Rattle.std.proofs.Common.{refl}
use Rattle.gv_smallprogram.specs.Examples.{SumValues, ProgramRows, RunRows}

pub sum_values : SumValues
sum_values = record {
  sum = refl;
  around = refl;
  difference = refl;
  below_zero = refl;
  nothing = refl;
  number = refl;
  from_left = refl;
  alone = refl;
}

pub program_rows : ProgramRows
program_rows = record { shaped = refl; names = refl; locals = refl; points = refl }

pub run_rows : RunRows
run_rows = record {
  made = refl;
  not_booted = refl;
  booted = refl;
  started = refl;
  adds = refl;
  goes_around = refl;
  takes_away = refl;
  below_zero = refl;
  crashes = refl;
  one_object = refl;
  defined = refl;
  explained = refl;
  no_call_before_the_boot = refl;
  one_argument = refl;
  a_truth_value = refl;
  too_large = refl;
  no_operation = refl;
  has_ended = refl;
  was_dropped = refl;
  no_disk = refl;
}
