-- The script grammar's table is predictive: computed here, from the tables alone. Made by tools/grammar.py from script.grammar: edit that.
use Rattle.std.proofs.Common.{◌≡◌, true, refl}
use Rattle.gv_grammar.specs.Predictive.{is_predictive, certificate_of}
use Rattle.gv_scriptsyntax.specs.ScriptTable.{script_tables}

pub script_predictive : is_predictive script_tables ≡ true
unfolding is_predictive certificate_of
script_predictive = refl
