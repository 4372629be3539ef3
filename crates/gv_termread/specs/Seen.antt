-- Tokens of a text as the grammar of terms sees them.
use Rattle.std.specs.Prelude.{ℕ, Bool, if◌then◌else◌, List, [], ◌∷◌, map, codes, slice_range, Option, Some, None}
use Rattle.std.specs.Str.{bytes_eq}
use Rattle.gv_base.specs.declared.token.Kind.{Kind}
use Rattle.gv_base.specs.declared.token.Kind.TheVariants.{Word, Number, Text, Sign, Semi}
use Rattle.gv_base.specs.declared.token.Token.{Token}
use Rattle.gv_text.specs.Digits.{up_to, largest_word}
use Rattle.gv_termread.specs.Numbers.{number_value}
use Rattle.gv_termread.specs.declared.generated.term_table.TheConstants.{CLASS_IDENT, CLASS_BYTES_WORD, CLASS_WORDS_WORD, CLASS_REFS_WORD, CLASS_BLOCKS_WORD, CLASS_LEN_WORD, CLASS_IS_ZERO_WORD, CLASS_LE64_WORD, CLASS_UN64_WORD, CLASS_S_LEN_WORD, CLASS_S_CAP_WORD, CLASS_IMP_WORD, CLASS_FITS_WORD, CLASS_AT_WORD, CLASS_CAT_WORD, CLASS_PUT64_WORD, CLASS_GET_WORD, CLASS_HAS_WORD, CLASS_DEL_WORD, CLASS_IF_WORD, CLASS_UPD_WORD, CLASS_SUB_WORD, CLASS_PUT_WORD, CLASS_SL_WORD, CLASS_TRUE_WORD, CLASS_FALSE_WORD, CLASS_NIL_WORD, CLASS_NIL_SLICE_WORD, CLASS_NO_CALL_WORD, CLASS_MAP_WW_WORD, CLASS_MAP_WB_WORD, CLASS_NUMBER, CLASS_L_PAREN, CLASS_R_PAREN, CLASS_COMMA, CLASS_OR_OR, CLASS_AND_AND, CLASS_EQUAL, CLASS_NOT_EQUAL, CLASS_LESS, CLASS_AT_MOST, CLASS_GREATER, CLASS_AT_LEAST, CLASS_PLUS, CLASS_MINUS, CLASS_BAR, CLASS_CARET, CLASS_STAR, CLASS_SLASH, CLASS_PERCENT, CLASS_SHIFT_LEFT, CLASS_SHIFT_RIGHT, CLASS_AMP, CLASS_AMP_CARET, CLASS_BANG, CLASS_LARGE_NUMBER, CLASS_OTHER_TOKEN}
use Rattle.gv_termread.specs.declared.token.SeenToken.{SeenToken}

-- the class that a table gives bytes, or another one where they don't stand in it
abbrev pub listed : List (List ℕ × ℕ) → ℕ → List ℕ → ℕ
listed [] other bytes = other
listed (row ∷ rows) other bytes = if bytes_eq bytes row.0 then row.1 else listed rows other bytes

abbrev pub list_words : List (List ℕ × ℕ)
list_words =
    (codes "bytes", CLASS_BYTES_WORD) ∷ (codes "words", CLASS_WORDS_WORD) ∷ (codes "refs", CLASS_REFS_WORD)
    ∷ (codes "len", CLASS_LEN_WORD) ∷ (codes "at", CLASS_AT_WORD) ∷ (codes "upd", CLASS_UPD_WORD)
    ∷ (codes "sub", CLASS_SUB_WORD) ∷ (codes "cat", CLASS_CAT_WORD) ∷ []

abbrev pub other_functions : List (List ℕ × ℕ)
other_functions =
    (codes "if", CLASS_IF_WORD) ∷ (codes "imp", CLASS_IMP_WORD) ∷ (codes "fits", CLASS_FITS_WORD) ∷ (codes "le64", CLASS_LE64_WORD)
    ∷ (codes "un64", CLASS_UN64_WORD) ∷ (codes "put64", CLASS_PUT64_WORD) ∷ (codes "get", CLASS_GET_WORD) ∷ (codes "has", CLASS_HAS_WORD)
    ∷ (codes "put", CLASS_PUT_WORD) ∷ (codes "del", CLASS_DEL_WORD) ∷ []

abbrev pub slice_words : List (List ℕ × ℕ)
slice_words = (codes "slen", CLASS_S_LEN_WORD) ∷ (codes "scap", CLASS_S_CAP_WORD) ∷ (codes "sl", CLASS_SL_WORD) ∷ []

abbrev pub constant_words : List (List ℕ × ℕ)
constant_words =
    (codes "true", CLASS_TRUE_WORD) ∷ (codes "false", CLASS_FALSE_WORD) ∷ (codes "nil", CLASS_NIL_WORD)
    ∷ (codes "mapww", CLASS_MAP_WW_WORD) ∷ (codes "mapwb", CLASS_MAP_WB_WORD) ∷ []

-- the words of these kinds that have six letters or more
abbrev pub long_words : List (List ℕ × ℕ)
long_words = (codes "blocks", CLASS_BLOCKS_WORD) ∷ (codes "iszero", CLASS_IS_ZERO_WORD) ∷ (codes "nilslice", CLASS_NIL_SLICE_WORD)
    ∷ (codes "nocall", CLASS_NO_CALL_WORD) ∷ []

abbrev pub word_class : List ℕ → ℕ
word_class bytes = listed list_words
    (listed other_functions (listed slice_words (listed constant_words (listed long_words CLASS_IDENT bytes) bytes) bytes) bytes) bytes

abbrev pub signs_of_one : List (List ℕ × ℕ)
signs_of_one =
    (codes "(", CLASS_L_PAREN) ∷ (codes ")", CLASS_R_PAREN) ∷ (codes ",", CLASS_COMMA) ∷ (codes "<", CLASS_LESS) ∷ (codes ">", CLASS_GREATER)
    ∷ (codes "+", CLASS_PLUS) ∷ (codes "-", CLASS_MINUS) ∷ (codes "|", CLASS_BAR) ∷ (codes "^", CLASS_CARET) ∷ (codes "*", CLASS_STAR)
    ∷ (codes "/", CLASS_SLASH) ∷ (codes "%", CLASS_PERCENT) ∷ (codes "&", CLASS_AMP) ∷ (codes "!", CLASS_BANG) ∷ []

abbrev pub signs_of_two : List (List ℕ × ℕ)
signs_of_two =
    (codes "||", CLASS_OR_OR) ∷ (codes "&&", CLASS_AND_AND) ∷ (codes "==", CLASS_EQUAL) ∷ (codes "!=", CLASS_NOT_EQUAL) ∷ (codes "<=", CLASS_AT_MOST)
    ∷ (codes ">=", CLASS_AT_LEAST) ∷ (codes "<<", CLASS_SHIFT_LEFT) ∷ (codes ">>", CLASS_SHIFT_RIGHT) ∷ (codes "&^", CLASS_AMP_CARET) ∷ []

-- a sign that no term has is another token
abbrev pub sign_class : List ℕ → ℕ
sign_class bytes = listed signs_of_two (listed signs_of_one CLASS_OTHER_TOKEN bytes) bytes

abbrev pub class_given : Option ℕ → ℕ
class_given (Some value) = CLASS_NUMBER
class_given None = CLASS_LARGE_NUMBER

abbrev pub value_given : Option ℕ → ℕ
value_given (Some value) = value
value_given None = 0

-- a number below 2^64 has its value
abbrev pub number_class : List ℕ → ℕ
number_class bytes = class_given (up_to largest_word (number_value bytes))

unfoldable pub class_of : Kind → List ℕ → ℕ
class_of Word bytes = word_class bytes
class_of Number bytes = number_class bytes
class_of Text bytes = CLASS_OTHER_TOKEN
class_of Sign bytes = sign_class bytes
class_of Semi bytes = CLASS_OTHER_TOKEN

unfoldable pub value_for : Kind → List ℕ → ℕ
value_for Word bytes = 0
value_for Number bytes = value_given (up_to largest_word (number_value bytes))
value_for Text bytes = 0
value_for Sign bytes = 0
value_for Semi bytes = 0

-- the bytes of a text from one place on that come before another
abbrev pub bytes_from : List ℕ → ℕ → ℕ → List ℕ
bytes_from text start end = slice_range text start end

-- a token of a text as the grammar sees it
abbrev pub seen_as : List ℕ → Token → SeenToken
seen_as text t = record {
  class = class_of t.kind (bytes_from text t.start t.end);
  start = t.start;
  end = t.end;
  value = value_for t.kind (bytes_from text t.start t.end);
}

-- all tokens of a text
abbrev pub seen : List ℕ → List Token → List SeenToken
seen text tokens = map (seen_as text) tokens
