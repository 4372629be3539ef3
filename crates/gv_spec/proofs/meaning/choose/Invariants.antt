use Rattle.std.proofs.Common.{◌≡◌, ◌++◌, length}
use Rattle.gv_atomic.specs.Choices.{are_allowed, picks_bound}
use Rattle.gv_atomic.specs.Specification.{ArePicksWithin}
use Rattle.gv_spec.proofs.meaning.choose.Given as goal

abbrev pub invariant-loop-picks : goal.invariant-loop-picks
invariant-loop-picks l = record {
  within : ArePicksWithin l.store l.picks;
  allowed : are_allowed l.store l.env.bindings l.picks l.choices ≡ are_allowed l.store l.fn.env.bindings l.fn.picks l.fn.choices;
  bound : l.env.bindings ++ picks_bound l.picks l.choices ≡ l.fn.env.bindings ++ picks_bound l.fn.picks l.fn.choices;
}

abbrev pub decreases-loop-picks : goal.decreases-loop-picks
decreases-loop-picks l = length l.picks
