-- The sample grammar's table is predictive: computed here, from the tables alone. Made by tools/grammar.py from sample.grammar: edit that.
use Rattle.std.proofs.Common.{◌≡◌, true, refl}
use Rattle.gv_grammar.specs.Predictive.{is_predictive, certificate_of}
use Rattle.grammar_sample.specs.SampleTable.{sample_tables}

pub sample_predictive : is_predictive sample_tables ≡ true
unfolding is_predictive certificate_of
sample_predictive = refl
