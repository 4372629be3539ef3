-- Words of scripts, by what they may stand for. Words with the same grammar are of one class.
use Rattle.std.specs.Prelude.{ℕ, List, [], ◌∷◌, ◌++◌}
use Rattle.gv_termread.specs.declared.generated.term_table.TheConstants.{CLASS_IDENT, CLASS_NUMBER}
use Rattle.gv_scriptsyntax.specs.declared.generated.script_table.TheConstants.{CLASS_ABSURD_WORD, CLASS_ALONE_WORD, CLASS_AS_WORD, CLASS_AXIOM_WORD, CLASS_BOOK_ATOM_WORD, CLASS_BOOK_WORD, CLASS_BOOT_WORD, CLASS_BY_WORD, CLASS_CASES_WORD, CLASS_CASE_WORD, CLASS_CELL_ATOM_WORD, CLASS_CLASH_WORD, CLASS_CONTRA_WORD, CLASS_CRASH_WORD, CLASS_CUT_WORD, CLASS_DONE_WORD, CLASS_DURING_WORD, CLASS_EACH_WORD, CLASS_EXCEPT_WORD, CLASS_FIELD_ATOM_WORD, CLASS_FOLD_WORD, CLASS_FORGET_WORD, CLASS_GIVEN_WORD, CLASS_GUARD_WORD, CLASS_HALVES_WORD, CLASS_HAVE_WORD, CLASS_INIT_WORD, CLASS_IN_WORD, CLASS_LET_WORD, CLASS_LINEAR_WORD, CLASS_LOCALS_WORD, CLASS_LOCK_WORD, CLASS_MAP_WORD, CLASS_MERGE_WORD, CLASS_NEW_WORD, CLASS_ONE_ATOM_WORD, CLASS_ON_ATOM_WORD, CLASS_ON_PAIR_WORD, CLASS_OP_WORD, CLASS_OWN_WORD, CLASS_POST_WORD, CLASS_PRED_WORD, CLASS_PRE_WORD, CLASS_PROC_WORD, CLASS_RECOVER_WORD, CLASS_REWRITE_WORD, CLASS_ROOT_WORD, CLASS_SET_WORD, CLASS_SHARED_WORD, CLASS_SHARE_WORD, CLASS_SIM_WORD, CLASS_SORT_WORD, CLASS_SPLIT_PART_WORD, CLASS_STEPS_WORD, CLASS_STEP_WORD, CLASS_SUBST_WORD, CLASS_TAKE_WORD, CLASS_THREE_ATOM_WORD, CLASS_TOKEN_WORD, CLASS_TO_WORD, CLASS_TWO_ATOM_WORD, CLASS_UNFOLD_WORD, CLASS_VARS_WORD, CLASS_VOID_WORD, CLASS_WITH_WORD, CLASS_YIELD_WORD}
use Rattle.gv_termread.specs.Language.{Lexicon, makers, of_one, of_two, of_three, constants}

-- words of atoms of two terms; `map` is a command too
abbrev pub two_atoms : List ℕ
two_atoms = CLASS_TWO_ATOM_WORD ∷ CLASS_MAP_WORD ∷ []

-- the other words of atoms
abbrev pub single_atoms : List ℕ
single_atoms =
    CLASS_THREE_ATOM_WORD ∷ CLASS_CELL_ATOM_WORD ∷ CLASS_FIELD_ATOM_WORD ∷ CLASS_BOOK_ATOM_WORD ∷ CLASS_LOCK_WORD ∷ CLASS_TOKEN_WORD ∷ CLASS_DONE_WORD
    ∷ CLASS_EACH_WORD ∷ []

abbrev pub atom_words : List ℕ
atom_words = CLASS_ONE_ATOM_WORD ∷ (two_atoms ++ single_atoms)

-- words that are neither of atoms nor of terms: identifiers that are no words at all, words of declarations, commands and
-- certificates, and sorts
abbrev pub named : List ℕ
named =
    CLASS_IDENT ∷ CLASS_BOOK_WORD ∷ CLASS_PRED_WORD ∷ CLASS_CRASH_WORD ∷ CLASS_ROOT_WORD ∷ CLASS_INIT_WORD ∷ CLASS_RECOVER_WORD ∷ CLASS_OP_WORD ∷
    CLASS_PROC_WORD ∷ CLASS_CASE_WORD ∷ CLASS_OWN_WORD ∷ CLASS_VARS_WORD ∷ CLASS_PRE_WORD ∷ CLASS_POST_WORD ∷ CLASS_CUT_WORD ∷ CLASS_SHARED_WORD ∷
    CLASS_LOCALS_WORD ∷ CLASS_FOLD_WORD ∷ CLASS_UNFOLD_WORD ∷ CLASS_ON_ATOM_WORD ∷ CLASS_HAVE_WORD ∷ CLASS_BY_WORD ∷ CLASS_LET_WORD ∷
    CLASS_REWRITE_WORD ∷ CLASS_TO_WORD ∷ CLASS_ABSURD_WORD ∷ CLASS_CLASH_WORD ∷ CLASS_CASES_WORD ∷ CLASS_ON_PAIR_WORD ∷ CLASS_HALVES_WORD ∷
    CLASS_NEW_WORD ∷ CLASS_AS_WORD ∷ CLASS_SET_WORD ∷ CLASS_TAKE_WORD ∷ CLASS_SPLIT_PART_WORD ∷ CLASS_WITH_WORD ∷ CLASS_ALONE_WORD ∷ CLASS_SIM_WORD ∷
    CLASS_SHARE_WORD ∷ CLASS_BOOT_WORD ∷ CLASS_GUARD_WORD ∷ CLASS_FORGET_WORD ∷ CLASS_STEP_WORD ∷ CLASS_DURING_WORD ∷ CLASS_MERGE_WORD ∷
    CLASS_VOID_WORD ∷ CLASS_YIELD_WORD ∷ CLASS_GIVEN_WORD ∷ CLASS_AXIOM_WORD ∷ CLASS_SUBST_WORD ∷ CLASS_IN_WORD ∷ CLASS_CONTRA_WORD ∷ CLASS_LINEAR_WORD ∷
    CLASS_STEPS_WORD ∷ CLASS_EXCEPT_WORD ∷ CLASS_SORT_WORD ∷ []

-- those that may name a predicate in an atom, and all words
abbrev pub predicates : List ℕ
predicates = named ++ (makers ++ (of_one ++ (of_two ++ (of_three ++ constants))))

abbrev pub identifiers : List ℕ
identifiers = predicates ++ atom_words

-- in a term, words that are neither constants nor functions
abbrev pub free_words : List ℕ
free_words = named ++ atom_words

-- a script as its terms see it
abbrev pub lexicon : List ℕ → Lexicon
lexicon text = record { text = text; names = free_words; numbers = CLASS_NUMBER ∷ [] }
