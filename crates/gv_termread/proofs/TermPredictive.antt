-- The term grammar's table is predictive: computed here, from the tables alone. Made by tools/grammar.py from term.grammar: edit that.
use Rattle.std.proofs.Common.{◌≡◌, true, refl}
use Rattle.gv_grammar.specs.Predictive.{is_predictive, certificate_of}
use Rattle.gv_termread.specs.TermTable.{term_tables}

pub term_predictive : is_predictive term_tables ≡ true
unfolding is_predictive certificate_of
term_predictive = refl
