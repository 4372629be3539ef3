-- The term tables begin with the term grammar's rules, sets and acts. Made by tools/grammar.py from term.grammar: edit that.
use Rattle.std.proofs.Common.{ℕ, List, [], ◌∷◌, refl}
use Rattle.gv_grammar.specs.Fragment.{Contains}
use Rattle.gv_termread.specs.declared.generated.term_table.TheConstants.{CLASS_IDENT, CLASS_NUMBER}
use Rattle.gv_termread.specs.TermFragment.{term_fragment}
use Rattle.gv_termread.specs.TermActs.{term_acts}
use Rattle.gv_termread.specs.declared.generated.term_acts.NoOther.{NoOther}
use Rattle.gv_termread.specs.TermTable.{term_tables}

abbrev pub term_free : List ℕ
term_free = CLASS_IDENT ∷ []

abbrev pub term_any_number : List ℕ
term_any_number = CLASS_NUMBER ∷ []

pub term_contains : (text : List ℕ) → Contains term_tables (term_acts text) (term_fragment {O = NoOther} text term_free term_any_number)
term_contains text = record {
  rules = (refl, refl, (refl, refl, (refl, refl, (refl, refl, (refl, refl, (refl, refl, (refl, refl, (refl, refl, (refl, refl, (refl, refl, (refl, refl, (refl, refl, (refl, refl, (refl, refl, (refl, refl, (refl, refl, (refl, refl, (refl, refl, (refl, refl, (refl, refl, (refl, refl, (refl, refl, (refl, refl, (refl, refl, (refl, refl, (refl, refl, (refl, refl, (refl, refl, (refl, refl, (refl, refl, (refl, refl, (refl, refl, (refl, refl, (refl, refl, tt))))))))))))))))))))))))))))))))));
  sets = (refl, (refl, (refl, (refl, (refl, (refl, (refl, (refl, (refl, (refl, (refl, (refl, (refl, (refl, (refl, (refl, tt))))))))))))))));
  more = [];
  same = refl;
}
