-- Made by tools/grammar.py from sample.grammar: edit that.
use Rattle.std.proofs.Common.{refl}
use Rattle.grammar_sample.proofs.SamplePredictive.{sample_predictive}
use Rattle.grammar_sample.proofs.generated.sample_table.sample_grammar.Goals as goal

pub returns-clause-block : goal.returns-clause-block
returns-clause-block c = (sample_predictive, refl)

pub returns-clause-sum : goal.returns-clause-sum
returns-clause-sum c = (sample_predictive, refl)
