-- Made by tools/grammar.py from spec.grammar: edit that.
use Rattle.std.proofs.Common.{refl}
use Rattle.gv_specread.proofs.SpecPredictive.{spec_predictive}
use Rattle.gv_specread.proofs.generated.spec_table.spec_grammar.Goals as goal

pub returns-clause-text : goal.returns-clause-text
returns-clause-text c = (spec_predictive, refl)
