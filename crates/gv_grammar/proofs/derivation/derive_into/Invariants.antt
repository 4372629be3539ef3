use Rattle.std.proofs.Common.{reverse, take}
use Rattle.gv_grammar.specs.Derivation.{tables_of}
use Rattle.gv_grammar.specs.Engine.{IsReading}
use Rattle.gv_grammar.proofs.derivation.derive_into.Given as goal

abbrev pub invariant-loop-at : goal.invariant-loop-at
invariant-loop-at l = IsReading (tables_of l.grammar) l.root (take l.at l.classes) (reverse l.stack.items) l.steps.items
