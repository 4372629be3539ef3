use Rattle.std.proofs.Common.{◌≡◌, ◌≤◌, List, Some}
use Rattle.std.specs.Prelude.{drop, take}
use Rattle.gv_gosyntax.specs.declared.generated.gosyntax_acts.Part.{Part}
use Rattle.gv_gosyntax.specs.Nodes.{built}
use Rattle.gv_gosyntax.proofs.building.start_of.Given as goal

abbrev pub invariant-loop : goal.invariant-loop
invariant-loop l = record {
  within : l.start ≤ l.end;
  kept : (parts : List Part) → built (take l.end l.nodes) ≡ Some parts → built (take l.start l.nodes) ≡ Some (drop l.counter parts);
}
