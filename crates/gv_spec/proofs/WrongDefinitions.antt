-- What wrong definitions would let pass, computed.
use Rattle.std.proofs.Common.{refl}
use Rattle.gv_spec.specs.WrongDefinitions.{WrongWalks, WrongRuns}

pub wrong_walks : WrongWalks
wrong_walks = record {
  table = record { passes = refl; refuses = refl };
  fields = record { passes = refl; refuses = refl };
  boot_choices = record { passes = refl; refuses = refl };
  act_choices = record { passes = refl; refuses = refl };
  twice = record { passes = refl; refuses = refl };
  replies = record { passes = refl; refuses = refl };
  early = record { passes = refl; refuses = refl };
  numbers = record { passes = refl; refuses = refl };
  unshown = refl;
  shown = refl;
}

pub wrong_runs : WrongRuns
wrong_runs = record {
  threads = record { wrongly = refl; rightly = refl };
  receiver = record { wrongly = refl; rightly = refl };
  numbers = record { wrongly = refl; rightly = refl };
  entries = record { wrongly = refl; rightly = refl };
  unbooted = record { wrongly = refl; rightly = refl };
  race_forgotten = refl;
  race_kept = refl;
}
