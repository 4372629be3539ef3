use Rattle.std.proofs.Common.{◌≡◌, drop}
use Rattle.std.specs.Option.{option_and_then}
use Rattle.gv_grammar.specs.Building.{run}
use Rattle.gv_termread.specs.declared.generated.term_acts.Part.TheVariants.{Token as PToken}
use Rattle.gv_scriptsyntax.specs.Nodes.{built, done_by, left_by, IsFormed}
use Rattle.gv_scriptsyntax.proofs.building.nodes_of.Given as goal

-- the steps that are left make of the rest, and of what the nodes make, what all steps make of all tokens
abbrev pub invariant-loop-step : goal.invariant-loop-step
invariant-loop-step l = record {
  same : option_and_then (λ parts. run PToken (done_by l.text) (drop l.step-index l.steps) l.rest parts) (built l.text l.nodes.items) ≡ left_by l.text l.steps l.fn.tokens;
  formed : IsFormed l.text l.nodes.items;
}
