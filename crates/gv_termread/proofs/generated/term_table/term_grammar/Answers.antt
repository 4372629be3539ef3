-- Made by tools/grammar.py from term.grammar: edit that.
use Rattle.std.proofs.Common.{refl}
use Rattle.gv_termread.proofs.TermPredictive.{term_predictive}
use Rattle.gv_termread.proofs.generated.term_table.term_grammar.Goals as goal

pub returns-clause-whole : goal.returns-clause-whole
returns-clause-whole c = (term_predictive, refl)
