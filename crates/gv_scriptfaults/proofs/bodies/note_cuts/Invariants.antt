use Rattle.std.proofs.Common.{map, take}
use Rattle.std.specs.Option.{option_copied}
use Rattle.gv_scriptnames.specs.Names.{names_in}
use Rattle.gv_scriptfaults.specs.Noted.{AreCuts}
use Rattle.gv_scriptfaults.specs.Tables.{Holds}
use Rattle.gv_scriptfaults.proofs.bodies.note_cuts.Given as goal

abbrev pub invariant-loop-cut : goal.invariant-loop-cut
invariant-loop-cut l = record {
  noted : AreCuts l.text l.known l.outside l.cuts (option_copied l.facts) (take l.cut-index l.all) l.fn.first l.first;
  names : Holds (names_in l.text (map (λ d. d.name) (take l.cut-index l.all))) l.names;
}
