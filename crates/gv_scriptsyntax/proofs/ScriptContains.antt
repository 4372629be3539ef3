-- The script tables begin with the term grammar's rules, sets and acts. Made by tools/grammar.py from script.grammar: edit that.
use Rattle.std.proofs.Common.{ℕ, List, [], ◌∷◌, refl}
use Rattle.gv_grammar.specs.Fragment.{Contains}
use Rattle.gv_termread.specs.declared.generated.term_table.TheConstants.{CLASS_IDENT, CLASS_NUMBER}
use Rattle.gv_scriptsyntax.specs.declared.generated.script_table.TheConstants.{CLASS_ABSURD_WORD, CLASS_ALONE_WORD, CLASS_AS_WORD, CLASS_AXIOM_WORD, CLASS_BOOK_ATOM_WORD, CLASS_BOOK_WORD, CLASS_BOOT_WORD, CLASS_BY_WORD, CLASS_CASES_WORD, CLASS_CASE_WORD, CLASS_CELL_ATOM_WORD, CLASS_CLASH_WORD, CLASS_CONTRA_WORD, CLASS_CRASH_WORD, CLASS_CUT_WORD, CLASS_DONE_WORD, CLASS_DURING_WORD, CLASS_EACH_WORD, CLASS_EXCEPT_WORD, CLASS_FIELD_ATOM_WORD, CLASS_FOLD_WORD, CLASS_FORGET_WORD, CLASS_GIVEN_WORD, CLASS_GUARD_WORD, CLASS_HALVES_WORD, CLASS_HAVE_WORD, CLASS_INIT_WORD, CLASS_IN_WORD, CLASS_LET_WORD, CLASS_LINEAR_WORD, CLASS_LOCALS_WORD, CLASS_LOCK_WORD, CLASS_MAP_WORD, CLASS_MERGE_WORD, CLASS_NEW_WORD, CLASS_ONE_ATOM_WORD, CLASS_ON_ATOM_WORD, CLASS_ON_PAIR_WORD, CLASS_OP_WORD, CLASS_OWN_WORD, CLASS_POST_WORD, CLASS_PRED_WORD, CLASS_PRE_WORD, CLASS_PROC_WORD, CLASS_RECOVER_WORD, CLASS_REWRITE_WORD, CLASS_ROOT_WORD, CLASS_SET_WORD, CLASS_SHARED_WORD, CLASS_SHARE_WORD, CLASS_SIM_WORD, CLASS_SORT_WORD, CLASS_SPLIT_PART_WORD, CLASS_STEPS_WORD, CLASS_STEP_WORD, CLASS_SUBST_WORD, CLASS_TAKE_WORD, CLASS_THREE_ATOM_WORD, CLASS_TOKEN_WORD, CLASS_TO_WORD, CLASS_TWO_ATOM_WORD, CLASS_UNFOLD_WORD, CLASS_VARS_WORD, CLASS_VOID_WORD, CLASS_WITH_WORD, CLASS_YIELD_WORD}
use Rattle.gv_termread.specs.TermFragment.{term_fragment}
use Rattle.gv_scriptsyntax.specs.ScriptActs.{script_acts, script_own_acts}
use Rattle.gv_termread.specs.declared.generated.term_acts.Part.{Part}
use Rattle.gv_scriptsyntax.specs.declared.generated.script_acts.ScriptPart.{ScriptPart}
use Rattle.gv_scriptsyntax.specs.ScriptTable.{script_tables}

abbrev pub script_free : List ℕ
script_free = CLASS_IDENT ∷ CLASS_BOOK_WORD ∷ CLASS_PRED_WORD ∷ CLASS_CRASH_WORD ∷ CLASS_ROOT_WORD ∷ CLASS_INIT_WORD ∷ CLASS_RECOVER_WORD ∷ CLASS_OP_WORD ∷ CLASS_PROC_WORD ∷ CLASS_CASE_WORD ∷ CLASS_OWN_WORD ∷ CLASS_VARS_WORD ∷ CLASS_PRE_WORD ∷ CLASS_POST_WORD ∷ CLASS_CUT_WORD ∷ CLASS_SHARED_WORD ∷ CLASS_LOCALS_WORD ∷ CLASS_FOLD_WORD ∷ CLASS_UNFOLD_WORD ∷ CLASS_ON_ATOM_WORD ∷ CLASS_HAVE_WORD ∷ CLASS_BY_WORD ∷ CLASS_LET_WORD ∷ CLASS_REWRITE_WORD ∷ CLASS_TO_WORD ∷ CLASS_ABSURD_WORD ∷ CLASS_CLASH_WORD ∷ CLASS_CASES_WORD ∷ CLASS_ON_PAIR_WORD ∷ CLASS_HALVES_WORD ∷ CLASS_NEW_WORD ∷ CLASS_AS_WORD ∷ CLASS_SET_WORD ∷ CLASS_TAKE_WORD ∷ CLASS_SPLIT_PART_WORD ∷ CLASS_WITH_WORD ∷ CLASS_ALONE_WORD ∷ CLASS_SIM_WORD ∷ CLASS_SHARE_WORD ∷ CLASS_BOOT_WORD ∷ CLASS_GUARD_WORD ∷ CLASS_FORGET_WORD ∷ CLASS_STEP_WORD ∷ CLASS_DURING_WORD ∷ CLASS_MERGE_WORD ∷ CLASS_VOID_WORD ∷ CLASS_YIELD_WORD ∷ CLASS_GIVEN_WORD ∷ CLASS_AXIOM_WORD ∷ CLASS_SUBST_WORD ∷ CLASS_IN_WORD ∷ CLASS_CONTRA_WORD ∷ CLASS_LINEAR_WORD ∷ CLASS_STEPS_WORD ∷ CLASS_EXCEPT_WORD ∷ CLASS_SORT_WORD ∷ CLASS_ONE_ATOM_WORD ∷ CLASS_TWO_ATOM_WORD ∷ CLASS_MAP_WORD ∷ CLASS_THREE_ATOM_WORD ∷ CLASS_CELL_ATOM_WORD ∷ CLASS_FIELD_ATOM_WORD ∷ CLASS_BOOK_ATOM_WORD ∷ CLASS_LOCK_WORD ∷ CLASS_TOKEN_WORD ∷ CLASS_DONE_WORD ∷ CLASS_EACH_WORD ∷ []

abbrev pub script_any_number : List ℕ
script_any_number = CLASS_NUMBER ∷ []

pub script_contains : (text : List ℕ) → Contains script_tables (script_acts text) (term_fragment {O = ScriptPart} text script_free script_any_number)
script_contains text = record {
  rules = (refl, refl, (refl, refl, (refl, refl, (refl, refl, (refl, refl, (refl, refl, (refl, refl, (refl, refl, (refl, refl, (refl, refl, (refl, refl, (refl, refl, (refl, refl, (refl, refl, (refl, refl, (refl, refl, (refl, refl, (refl, refl, (refl, refl, (refl, refl, (refl, refl, (refl, refl, (refl, refl, (refl, refl, (refl, refl, (refl, refl, (refl, refl, (refl, refl, (refl, refl, (refl, refl, (refl, refl, (refl, refl, (refl, refl, (refl, refl, tt))))))))))))))))))))))))))))))))));
  sets = (refl, (refl, (refl, (refl, (refl, (refl, (refl, (refl, (refl, (refl, (refl, (refl, (refl, (refl, (refl, (refl, tt))))))))))))))));
  more = script_own_acts text;
  same = refl;
}
