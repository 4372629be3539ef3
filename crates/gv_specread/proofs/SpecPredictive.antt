-- The spec grammar's table is predictive: computed here, from the tables alone. Made by tools/grammar.py from spec.grammar: edit that.
use Rattle.std.proofs.Common.{◌≡◌, true, refl}
use Rattle.gv_grammar.specs.Predictive.{is_predictive, certificate_of}
use Rattle.gv_specread.specs.SpecTable.{spec_tables}

pub spec_predictive : is_predictive spec_tables ≡ true
unfolding is_predictive certificate_of
spec_predictive = refl
