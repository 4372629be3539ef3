use Rattle.std.proofs.Common.{◌≡◌, ◌≤◌, [], reverse, drop}
use Rattle.gv_grammar.specs.Levels.{deep_from}
use Rattle.gv_grammar.proofs.levels.first_deep.Given as goal

abbrev pub invariant-loop-step : goal.invariant-loop-step
invariant-loop-step l = record {
  few : l.at ≤ l.step-index;
  same : deep_from l.limit l.level (reverse l.saved.items) l.at (drop l.step-index l.steps) ≡ deep_from l.limit l.fn.level [] 0 l.steps;
}
