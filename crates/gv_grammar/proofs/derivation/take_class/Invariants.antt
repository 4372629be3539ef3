use Rattle.std.proofs.Common.{◌≡◌, ◌++◌, List, reverse}
use Rattle.gv_grammar.specs.declared.steps.Step.{Step}
use Rattle.gv_grammar.specs.Derivation.{tables_of}
use Rattle.gv_grammar.specs.Predictive.{certificate_of, reach}
use Rattle.gv_grammar.specs.Engine.{IsSound, Narrows}
use Rattle.gv_grammar.proofs.derivation.take_class.Given as goal

abbrev pub invariant-loop-symbol : goal.invariant-loop-symbol
invariant-loop-symbol l = record {
  sound : IsSound (tables_of l.grammar) (certificate_of (tables_of l.grammar)) (reverse l.stack.items);
  added : List Step;
  steps : l.steps.items ≡ l.fn.steps.items ++ added;
  narrows : Narrows (tables_of l.grammar) l.class (reverse l.fn.stack.items) (reverse l.stack.items) added;
}

abbrev pub decreases-loop-symbol : goal.decreases-loop-symbol
decreases-loop-symbol l = reach (tables_of l.grammar) (certificate_of (tables_of l.grammar)) (reverse l.stack.items)
