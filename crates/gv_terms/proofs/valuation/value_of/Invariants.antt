use Rattle.std.proofs.Common.{length}
use Rattle.gv_terms.specs.Store.{trees_of}
use Rattle.gv_terms.proofs.Living.{IsLive}
use Rattle.gv_terms.proofs.valuation.value_of.Given as goal

abbrev pub invariant-loop-step : goal.invariant-loop-step
invariant-loop-step l = IsLive l.nodes l.root l.env (trees_of l.nodes) l.steps.items l.live

abbrev pub decreases-loop-step : goal.decreases-loop-step
decreases-loop-step l = length l.steps.items
