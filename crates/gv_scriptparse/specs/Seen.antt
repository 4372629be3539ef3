-- Tokens of a text as the grammar of scripts sees them.
use Rattle.std.specs.Prelude.{ℕ, ◌-◌, ◌^◌, ◌==◌, nat_le, if◌then◌else◌, List, [], ◌∷◌, map, codes}
use Rattle.gv_base.specs.declared.token.Kind.{Kind}
use Rattle.gv_base.specs.declared.token.Kind.TheVariants.{Word, Number, Text, Sign, Semi}
use Rattle.gv_base.specs.declared.token.Token.{Token}
use Rattle.gv_termread.specs.declared.generated.term_table.TheConstants.{CLASS_LARGE_NUMBER}
use Rattle.gv_termread.specs.declared.token.SeenToken.{SeenToken}
use Rattle.gv_termread.specs.Numbers.{number_value}
use Rattle.gv_termread.specs.Seen.{listed, bytes_from, seen_as as seen_in_terms}
use Rattle.gv_scriptsyntax.specs.declared.generated.script_table.TheConstants.{CLASS_ABSURD_WORD, CLASS_ALONE_WORD, CLASS_ASSIGN, CLASS_AS_WORD, CLASS_AXIOM_WORD, CLASS_BOOK_ATOM_WORD, CLASS_BOOK_WORD, CLASS_BOOT_WORD, CLASS_BY_WORD, CLASS_CASES_WORD, CLASS_CASE_WORD, CLASS_CELL_ATOM_WORD, CLASS_CLASH_WORD, CLASS_COLON, CLASS_CONTRA_WORD, CLASS_CRASH_WORD, CLASS_CUT_WORD, CLASS_DONE_WORD, CLASS_DOT_DOT, CLASS_DURING_WORD, CLASS_EACH_WORD, CLASS_EXCEPT_WORD, CLASS_FIELD_ATOM_WORD, CLASS_FOLD_WORD, CLASS_FORGET_WORD, CLASS_GIVEN_WORD, CLASS_GUARD_WORD, CLASS_HALVES_WORD, CLASS_HAVE_WORD, CLASS_HOLE, CLASS_INIT_WORD, CLASS_IN_WORD, CLASS_LET_WORD, CLASS_LIMIT_NUMBER, CLASS_LINEAR_WORD, CLASS_LOCALS_WORD, CLASS_LOCK_WORD, CLASS_L_BRACE, CLASS_L_BRACKET, CLASS_MAP_WORD, CLASS_MERGE_WORD, CLASS_NEW_WORD, CLASS_ONE_ATOM_WORD, CLASS_ON_ATOM_WORD, CLASS_ON_PAIR_WORD, CLASS_OP_WORD, CLASS_OWN_WORD, CLASS_POST_WORD, CLASS_PRED_WORD, CLASS_PRE_WORD, CLASS_PROC_WORD, CLASS_RECOVER_WORD, CLASS_REWRITE_WORD, CLASS_ROOT_WORD, CLASS_R_BRACE, CLASS_R_BRACKET, CLASS_SEMI, CLASS_SET_WORD, CLASS_SHARED_WORD, CLASS_SHARE_WORD, CLASS_SIM_WORD, CLASS_SORT_WORD, CLASS_SPLIT_PART_WORD, CLASS_STEPS_WORD, CLASS_STEP_WORD, CLASS_SUBST_WORD, CLASS_TAKE_WORD, CLASS_THREE_ATOM_WORD, CLASS_TOKEN_WORD, CLASS_TO_WORD, CLASS_TWO_ATOM_WORD, CLASS_UNFOLD_WORD, CLASS_VARS_WORD, CLASS_VOID_WORD, CLASS_WITH_WORD, CLASS_YIELD_WORD}

-- words of declarations
abbrev pub declaration_words : List (List ℕ × ℕ)
declaration_words =
    (codes "book", CLASS_BOOK_WORD) ∷ (codes "pred", CLASS_PRED_WORD) ∷ (codes "crash", CLASS_CRASH_WORD) ∷ (codes "root", CLASS_ROOT_WORD)
    ∷ (codes "init", CLASS_INIT_WORD) ∷ (codes "op", CLASS_OP_WORD) ∷ (codes "proc", CLASS_PROC_WORD) ∷ (codes "case", CLASS_CASE_WORD) ∷ []

-- words within declarations
abbrev pub part_words : List (List ℕ × ℕ)
part_words =
    (codes "own", CLASS_OWN_WORD) ∷ (codes "pre", CLASS_PRE_WORD) ∷ (codes "post", CLASS_POST_WORD) ∷ (codes "cut", CLASS_CUT_WORD)
    ∷ (codes "vars", CLASS_VARS_WORD) ∷ []

-- words of atoms
abbrev pub atom_words : List (List ℕ × ℕ)
atom_words =
    (codes "held", CLASS_ONE_ATOM_WORD) ∷ (codes "down", CLASS_ONE_ATOM_WORD) ∷ (codes "spare", CLASS_ONE_ATOM_WORD)
    ∷ (codes "slice", CLASS_TWO_ATOM_WORD) ∷ (codes "half", CLASS_TWO_ATOM_WORD) ∷ (codes "lease", CLASS_THREE_ATOM_WORD)
    ∷ (codes "cell", CLASS_CELL_ATOM_WORD) ∷ []

abbrev pub other_atoms : List (List ℕ × ℕ)
other_atoms =
    (codes "ro", CLASS_CELL_ATOM_WORD) ∷ (codes "field", CLASS_FIELD_ATOM_WORD) ∷ (codes "map", CLASS_MAP_WORD) ∷ (codes "lock", CLASS_LOCK_WORD)
    ∷ (codes "token", CLASS_TOKEN_WORD) ∷ (codes "done", CLASS_DONE_WORD) ∷ (codes "each", CLASS_EACH_WORD) ∷ []

-- words of commands and certificates
abbrev pub command_words : List (List ℕ × ℕ)
command_words =
    (codes "fold", CLASS_FOLD_WORD) ∷ (codes "have", CLASS_HAVE_WORD) ∷ (codes "by", CLASS_BY_WORD) ∷ (codes "let", CLASS_LET_WORD)
    ∷ (codes "to", CLASS_TO_WORD) ∷ (codes "clash", CLASS_CLASH_WORD) ∷ (codes "cases", CLASS_CASES_WORD) ∷ (codes "new", CLASS_NEW_WORD)
    ∷ (codes "as", CLASS_AS_WORD) ∷ (codes "set", CLASS_SET_WORD) ∷ []

abbrev pub more_commands : List (List ℕ × ℕ)
more_commands =
    (codes "take", CLASS_TAKE_WORD) ∷ (codes "with", CLASS_WITH_WORD) ∷ (codes "sim", CLASS_SIM_WORD) ∷ (codes "share", CLASS_SHARE_WORD)
    ∷ (codes "boot", CLASS_BOOT_WORD) ∷ (codes "guard", CLASS_GUARD_WORD) ∷ (codes "step", CLASS_STEP_WORD) ∷ (codes "merge", CLASS_MERGE_WORD)
    ∷ (codes "void", CLASS_VOID_WORD) ∷ (codes "yield", CLASS_YIELD_WORD) ∷ []

abbrev pub other_commands : List (List ℕ × ℕ)
other_commands =
    (codes "axiom", CLASS_AXIOM_WORD) ∷ (codes "subst", CLASS_SUBST_WORD) ∷ (codes "in", CLASS_IN_WORD) ∷ (codes "steps", CLASS_STEPS_WORD)
    ∷ (codes "copy", CLASS_ON_ATOM_WORD) ∷ (codes "drop", CLASS_ON_ATOM_WORD) ∷ (codes "lenof", CLASS_ON_ATOM_WORD)
    ∷ (codes "none", CLASS_ON_ATOM_WORD) ∷ (codes "one", CLASS_ON_ATOM_WORD) ∷ (codes "agree", CLASS_ON_PAIR_WORD) ∷ []

abbrev pub last_commands : List (List ℕ × ℕ)
last_commands =
    (codes "join", CLASS_ON_PAIR_WORD) ∷ (codes "split", CLASS_SPLIT_PART_WORD) ∷ (codes "part", CLASS_SPLIT_PART_WORD)
    ∷ (codes "open", CLASS_ALONE_WORD) ∷ (codes "close", CLASS_ALONE_WORD) ∷ (codes "known", CLASS_GIVEN_WORD) ∷ (codes "mutex", CLASS_ONE_ATOM_WORD) ∷ []

-- sorts
abbrev pub sort_words : List (List ℕ × ℕ)
sort_words =
    (codes "Word", CLASS_SORT_WORD) ∷ (codes "Bool", CLASS_SORT_WORD) ∷ (codes "Bytes", CLASS_SORT_WORD) ∷ (codes "Words", CLASS_SORT_WORD)
    ∷ (codes "Refs", CLASS_SORT_WORD) ∷ (codes "MapWW", CLASS_SORT_WORD) ∷ (codes "MapWB", CLASS_SORT_WORD) ∷ (codes "Ref", CLASS_SORT_WORD)
    ∷ (codes "Call", CLASS_SORT_WORD) ∷ (codes "Name", CLASS_SORT_WORD) ∷ []

-- words of these kinds that have six letters or more
abbrev pub long_words : List (List ℕ × ℕ)
long_words =
    (codes "recover", CLASS_RECOVER_WORD) ∷ (codes "shared", CLASS_SHARED_WORD) ∷ (codes "locals", CLASS_LOCALS_WORD)
    ∷ (codes "unfold", CLASS_UNFOLD_WORD) ∷ (codes "rewrite", CLASS_REWRITE_WORD) ∷ (codes "absurd", CLASS_ABSURD_WORD)
    ∷ (codes "halves", CLASS_HALVES_WORD) ∷ []

abbrev pub longer_words : List (List ℕ × ℕ)
longer_words =
    (codes "forget", CLASS_FORGET_WORD) ∷ (codes "during", CLASS_DURING_WORD) ∷ (codes "contra", CLASS_CONTRA_WORD)
    ∷ (codes "linear", CLASS_LINEAR_WORD) ∷ (codes "except", CLASS_EXCEPT_WORD) ∷ (codes "freeze", CLASS_ON_ATOM_WORD)
    ∷ (codes "called", CLASS_ON_ATOM_WORD) ∷ []

abbrev pub other_long_words : List (List ℕ × ℕ)
other_long_words =
    (codes "compute", CLASS_GIVEN_WORD) ∷ (codes "roslice", CLASS_TWO_ATOM_WORD) ∷ (codes "master", CLASS_THREE_ATOM_WORD)
    ∷ (codes "flease", CLASS_FIELD_ATOM_WORD) ∷ (codes "bmaster", CLASS_BOOK_ATOM_WORD) ∷ (codes "blease", CLASS_BOOK_ATOM_WORD)
    ∷ (codes "Blocks", CLASS_SORT_WORD) ∷ []

abbrev pub last_long_words : List (List ℕ × ℕ)
last_long_words =
    (codes "SliceS", CLASS_SORT_WORD) ∷ []

-- by word, its number among the words of its class, from 0
abbrev pub ranks : List (List ℕ × ℕ)
ranks =
    (codes "drop", 1) ∷ (codes "lenof", 4) ∷ (codes "none", 5) ∷ (codes "one", 6) ∷ (codes "join", 1) ∷ (codes "part", 1) ∷ (codes "close", 1)
    ∷ (codes "held", 1) ∷ []

abbrev pub other_ranks : List (List ℕ × ℕ)
other_ranks =
    (codes "down", 2) ∷ (codes "spare", 3) ∷ (codes "half", 2) ∷ (codes "lease", 1) ∷ (codes "ro", 1) ∷ []

abbrev pub sort_ranks : List (List ℕ × ℕ)
sort_ranks =
    (codes "Bool", 1) ∷ (codes "Bytes", 2) ∷ (codes "Words", 3) ∷ (codes "Refs", 4) ∷ (codes "MapWW", 6) ∷ (codes "MapWB", 7) ∷ (codes "Ref", 8)
    ∷ (codes "Call", 10) ∷ (codes "Name", 11) ∷ []

abbrev pub long_ranks : List (List ℕ × ℕ)
long_ranks =
    (codes "freeze", 2) ∷ (codes "called", 3) ∷ (codes "compute", 1) ∷ (codes "roslice", 1) ∷ (codes "flease", 1) ∷ (codes "blease", 1)
    ∷ (codes "Blocks", 5) ∷ (codes "SliceS", 9) ∷ []

-- a word that stands in no list has the class that it has in a term
abbrev pub word_class : ℕ → List ℕ → ℕ
word_class class bytes = listed declaration_words (listed part_words (listed atom_words (listed other_atoms (listed command_words (listed more_commands (listed other_commands (listed last_commands (listed sort_words (listed long_words (listed longer_words (listed other_long_words (listed last_long_words class bytes) bytes) bytes) bytes) bytes) bytes) bytes) bytes) bytes) bytes) bytes) bytes) bytes

abbrev pub rank_of : List ℕ → ℕ
rank_of bytes = listed ranks (listed other_ranks (listed sort_ranks (listed long_ranks 0 bytes) bytes) bytes) bytes

abbrev pub signs : List (List ℕ × ℕ)
signs =
    (codes "{", CLASS_L_BRACE) ∷ (codes "}", CLASS_R_BRACE) ∷ (codes "[", CLASS_L_BRACKET) ∷ (codes "]", CLASS_R_BRACKET) ∷ (codes ":", CLASS_COLON)
    ∷ (codes "=", CLASS_ASSIGN) ∷ (codes "..", CLASS_DOT_DOT) ∷ (codes "?", CLASS_HOLE) ∷ []

-- the largest factor without a sign before it; one more is the largest number of a text
abbrev pub largest_factor : ℕ
largest_factor = 2 ^ 127 - 1

abbrev pub large_class : List ℕ → ℕ
large_class bytes = if nat_le (number_value bytes) largest_factor then CLASS_LARGE_NUMBER else CLASS_LIMIT_NUMBER

abbrev pub number_class : ℕ → List ℕ → ℕ
number_class class bytes = if class == CLASS_LARGE_NUMBER then large_class bytes else class

-- the class of a token, where this is its class in a term
unfoldable pub class_of : Kind → ℕ → List ℕ → ℕ
class_of Word class bytes = word_class class bytes
class_of Number class bytes = number_class class bytes
class_of Text class bytes = class
class_of Sign class bytes = listed signs class bytes
class_of Semi class bytes = CLASS_SEMI

-- the value of a number, and of a word its number among the words of its class
unfoldable pub value_for : Kind → ℕ → List ℕ → ℕ
value_for Word value bytes = rank_of bytes
value_for Number value bytes = value
value_for Text value bytes = value
value_for Sign value bytes = value
value_for Semi value bytes = value

-- a token of a text as the grammar sees it
abbrev pub seen_as : List ℕ → Token → SeenToken
seen_as text t = record {
  class = class_of t.kind (seen_in_terms text t).class (bytes_from text t.start t.end);
  start = t.start;
  end = t.end;
  value = value_for t.kind (seen_in_terms text t).value (bytes_from text t.start t.end);
}

-- all tokens of a text
abbrev pub seen : List ℕ → List Token → List SeenToken
seen text tokens = map (seen_as text) tokens
