use Rattle.std.proofs.Common.{◌≡◌, ◌≤◌, Some}
use Rattle.std.specs.Prelude.{drop, take}
use Rattle.gv_scriptsyntax.specs.Nodes.{Parts, built}
use Rattle.gv_scriptsyntax.proofs.building.start_of.Given as goal

abbrev pub invariant-loop : goal.invariant-loop
invariant-loop l = record {
  within : l.start ≤ l.end;
  kept : (parts : Parts) → built l.text (take l.end l.nodes) ≡ Some parts → built l.text (take l.start l.nodes) ≡ Some (drop l.counter parts);
}
