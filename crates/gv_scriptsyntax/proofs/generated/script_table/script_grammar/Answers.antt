-- Made by tools/grammar.py from script.grammar: edit that.
use Rattle.std.proofs.Common.{refl}
use Rattle.gv_scriptsyntax.proofs.ScriptPredictive.{script_predictive}
use Rattle.gv_scriptsyntax.proofs.generated.script_table.script_grammar.Goals as goal

pub returns-clause-text : goal.returns-clause-text
returns-clause-text c = (script_predictive, refl)
