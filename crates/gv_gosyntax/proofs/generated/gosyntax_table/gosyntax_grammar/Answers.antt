-- Made by tools/grammar.py from gosyntax.grammar: edit that.
use Rattle.std.proofs.Common.{refl}
use Rattle.gv_gosyntax.proofs.GosyntaxPredictive.{gosyntax_predictive}
use Rattle.gv_gosyntax.proofs.generated.gosyntax_table.gosyntax_grammar.Goals as goal

pub returns-clause-file : goal.returns-clause-file
returns-clause-file c = (gosyntax_predictive, refl)
