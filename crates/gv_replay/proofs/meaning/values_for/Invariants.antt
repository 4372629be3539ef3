use Rattle.std.proofs.Common.{◌≡◌, ◌++◌, length}
use Rattle.gv_replay.specs.Meaning.{values_for}
use Rattle.gv_replay.specs.Results.{map_ok}
use Rattle.gv_replay.proofs.meaning.values_for.Given as goal

abbrev pub invariant-loop-params : goal.invariant-loop-params
invariant-loop-params l = map_ok (λ more. l.values.items ++ more) (values_for l.params l.args) ≡ values_for l.fn.params l.fn.args

abbrev pub decreases-loop-params : goal.decreases-loop-params
decreases-loop-params l = length l.params
