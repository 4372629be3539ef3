use Rattle.std.proofs.Common.{◌≡◌, drop}
use Rattle.std.specs.Option.{option_and_then}
use Rattle.gv_grammar.specs.Building.{run}
use Rattle.gv_gosyntax.specs.declared.generated.gosyntax_acts.Part.TheVariants.{Token as PToken}
use Rattle.gv_gosyntax.specs.Nodes.{built, done_by, left_by, IsFormed}
use Rattle.gv_gosyntax.proofs.building.nodes_of.Given as goal

-- the steps that are left make of the rest, and of what the nodes make, what all steps make of all tokens
abbrev pub invariant-loop-step : goal.invariant-loop-step
invariant-loop-step l = record {
  same : option_and_then (λ parts. run PToken done_by (drop l.step-index l.steps) l.rest parts) (built l.nodes.items) ≡ left_by l.steps l.fn.tokens;
  formed : IsFormed l.nodes.items;
}
