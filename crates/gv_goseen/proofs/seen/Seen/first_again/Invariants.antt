use Rattle.std.proofs.Common.{◌≡◌, drop}
use Rattle.gv_goseen.specs.Seen.{source_of}
use Rattle.gv_goseen.proofs.AgainLemmas.{IsAgain}
use Rattle.gv_goseen.proofs.seen.Seen.first_again.Given as goal

abbrev pub invariant-loop-name : goal.invariant-loop-name
invariant-loop-name l = record {
  text : l.known.text ≡ (source_of l.self).text;
  again : IsAgain (source_of l.self) l.known.names l.first (drop l.name-index l.names) l.names;
}
