-- The gosyntax grammar's table is predictive: computed here, from the tables alone. Made by tools/grammar.py from gosyntax.grammar: edit that.
use Rattle.std.proofs.Common.{◌≡◌, true, refl}
use Rattle.gv_grammar.specs.Predictive.{is_predictive, certificate_of}
use Rattle.gv_gosyntax.specs.GosyntaxTable.{gosyntax_tables}

pub gosyntax_predictive : is_predictive gosyntax_tables ≡ true
unfolding is_predictive certificate_of
gosyntax_predictive = refl
