-- Tokens of a text as the grammar of packages sees them.
use Rattle.std.specs.Prelude.{ℕ, if◌then◌else◌, List, [], ◌∷◌, map, codes, slice_range}
use Rattle.std.specs.Str.{bytes_eq}
use Rattle.gv_base.specs.declared.token.Kind.{Kind}
use Rattle.gv_base.specs.declared.token.Kind.TheVariants.{Word, Number, Text, Sign, Semi}
use Rattle.gv_base.specs.declared.token.Token.{Token}
use Rattle.gv_gosyntax.specs.declared.generated.gosyntax_table.TheConstants.{CLASS_AMP, CLASS_AMP_ASSIGN, CLASS_AMP_CARET, CLASS_AMP_CARET_ASSIGN, CLASS_AND_AND, CLASS_APPEND, CLASS_ASSIGN, CLASS_AT_LEAST, CLASS_AT_MOST, CLASS_BANG, CLASS_BAR, CLASS_BAR_ASSIGN, CLASS_BLOCK, CLASS_BOOL, CLASS_BREAK, CLASS_BYTE, CLASS_CARET, CLASS_CARET_ASSIGN, CLASS_COLON, CLASS_COMMA, CLASS_CONST, CLASS_CONTINUE, CLASS_DECREMENT, CLASS_DEFINE, CLASS_DELETE, CLASS_DISK, CLASS_DOT, CLASS_ELSE, CLASS_EQUAL, CLASS_FALSE, CLASS_FOR, CLASS_FUNC, CLASS_GO, CLASS_GREATER, CLASS_IDENT, CLASS_IF, CLASS_IMPORT, CLASS_INCREMENT, CLASS_LEN, CLASS_LESS, CLASS_L_BRACE, CLASS_L_BRACKET, CLASS_L_PAREN, CLASS_MAKE, CLASS_MAP, CLASS_MINUS, CLASS_MINUS_ASSIGN, CLASS_MUTEX, CLASS_NEW, CLASS_NIL, CLASS_NOT_EQUAL, CLASS_NUMBER, CLASS_OR_OR, CLASS_OUTSIDE, CLASS_PACKAGE, CLASS_PERCENT, CLASS_PERCENT_ASSIGN, CLASS_PLUS, CLASS_PLUS_ASSIGN, CLASS_RETURN, CLASS_R_BRACE, CLASS_R_BRACKET, CLASS_R_PAREN, CLASS_SEMI, CLASS_SHIFT_LEFT, CLASS_SHIFT_LEFT_ASSIGN, CLASS_SHIFT_RIGHT, CLASS_SHIFT_RIGHT_ASSIGN, CLASS_SLASH, CLASS_SLASH_ASSIGN, CLASS_STAR, CLASS_STAR_ASSIGN, CLASS_STRUCT, CLASS_SYNC, CLASS_TEXT, CLASS_TRUE, CLASS_TWODISK, CLASS_TYPE, CLASS_UINT64, CLASS_VAR}
use Rattle.gv_gosyntax.specs.declared.lexeme.Lexeme.{Lexeme}
use Rattle.gv_goparse.specs.declared.seen.TheConstants.{CLASS_UNKNOWN}

-- the class that a table gives bytes, or another one where they don't stand in it
abbrev pub listed : List (List ℕ × ℕ) → ℕ → List ℕ → ℕ
listed [] other bytes = other
listed (row ∷ rows) other bytes = if bytes_eq bytes row.0 then row.1 else listed rows other bytes

-- words of declarations and types
abbrev pub declaration_words : List (List ℕ × ℕ)
declaration_words =
    (codes "type", CLASS_TYPE) ∷ (codes "const", CLASS_CONST) ∷ (codes "func", CLASS_FUNC) ∷ (codes "map", CLASS_MAP)
    ∷ (codes "var", CLASS_VAR) ∷ []

-- words of statements
abbrev pub statement_words : List (List ℕ × ℕ)
statement_words =
    (codes "if", CLASS_IF) ∷ (codes "else", CLASS_ELSE) ∷ (codes "for", CLASS_FOR) ∷ (codes "break", CLASS_BREAK)
    ∷ (codes "go", CLASS_GO) ∷ []

-- words that are reserved as keywords are
abbrev pub reserved_words : List (List ℕ × ℕ)
reserved_words =
    (codes "byte", CLASS_BYTE) ∷ (codes "bool", CLASS_BOOL) ∷ (codes "true", CLASS_TRUE) ∷ (codes "false", CLASS_FALSE)
    ∷ (codes "nil", CLASS_NIL) ∷ (codes "make", CLASS_MAKE) ∷ (codes "new", CLASS_NEW) ∷ (codes "len", CLASS_LEN) ∷ []

-- words of types that are names anywhere else
abbrev pub quoted_words : List (List ℕ × ℕ)
quoted_words =
    (codes "sync", CLASS_SYNC) ∷ (codes "Mutex", CLASS_MUTEX) ∷ (codes "disk", CLASS_DISK) ∷ (codes "Block", CLASS_BLOCK) ∷ []

-- keywords of Go that no package of the profile has
abbrev pub outside_words : List (List ℕ × ℕ)
outside_words =
    (codes "case", CLASS_OUTSIDE) ∷ (codes "chan", CLASS_OUTSIDE) ∷ (codes "defer", CLASS_OUTSIDE) ∷ (codes "goto", CLASS_OUTSIDE)
    ∷ (codes "range", CLASS_OUTSIDE) ∷ []

-- words of these kinds that have six letters or more
abbrev pub long_words : List (List ℕ × ℕ)
long_words =
    (codes "package", CLASS_PACKAGE) ∷ (codes "import", CLASS_IMPORT) ∷ (codes "struct", CLASS_STRUCT)
    ∷ (codes "continue", CLASS_CONTINUE) ∷ (codes "return", CLASS_RETURN) ∷ (codes "uint64", CLASS_UINT64)
    ∷ (codes "delete", CLASS_DELETE) ∷ (codes "append", CLASS_APPEND) ∷ []

abbrev pub longer_words : List (List ℕ × ℕ)
longer_words =
    (codes "twodisk", CLASS_TWODISK) ∷ (codes "default", CLASS_OUTSIDE) ∷ (codes "fallthrough", CLASS_OUTSIDE)
    ∷ (codes "interface", CLASS_OUTSIDE) ∷ (codes "select", CLASS_OUTSIDE) ∷ (codes "switch", CLASS_OUTSIDE) ∷ []

abbrev pub word_class : List ℕ → ℕ
word_class bytes =
    listed declaration_words (listed statement_words (listed reserved_words (listed quoted_words (listed outside_words (listed long_words (listed longer_words CLASS_IDENT bytes) bytes) bytes) bytes) bytes) bytes) bytes

-- punctuation
abbrev pub marks : List (List ℕ × ℕ)
marks =
    (codes "(", CLASS_L_PAREN) ∷ (codes ")", CLASS_R_PAREN) ∷ (codes "[", CLASS_L_BRACKET) ∷ (codes "]", CLASS_R_BRACKET)
    ∷ (codes "{", CLASS_L_BRACE) ∷ (codes "}", CLASS_R_BRACE) ∷ (codes ",", CLASS_COMMA) ∷ (codes ".", CLASS_DOT)
    ∷ (codes ":", CLASS_COLON) ∷ (codes "=", CLASS_ASSIGN) ∷ []

-- operators of one character
abbrev pub operators_of_one : List (List ℕ × ℕ)
operators_of_one =
    (codes "!", CLASS_BANG) ∷ (codes "<", CLASS_LESS) ∷ (codes ">", CLASS_GREATER) ∷ (codes "+", CLASS_PLUS)
    ∷ (codes "-", CLASS_MINUS) ∷ (codes "*", CLASS_STAR) ∷ (codes "/", CLASS_SLASH) ∷ (codes "%", CLASS_PERCENT)
    ∷ (codes "&", CLASS_AMP) ∷ (codes "|", CLASS_BAR) ∷ (codes "^", CLASS_CARET) ∷ []

-- and of two
abbrev pub operators_of_two : List (List ℕ × ℕ)
operators_of_two =
    (codes ":=", CLASS_DEFINE) ∷ (codes "==", CLASS_EQUAL) ∷ (codes "!=", CLASS_NOT_EQUAL) ∷ (codes "<=", CLASS_AT_MOST)
    ∷ (codes ">=", CLASS_AT_LEAST) ∷ (codes "&&", CLASS_AND_AND) ∷ (codes "||", CLASS_OR_OR) ∷ (codes "++", CLASS_INCREMENT)
    ∷ (codes "--", CLASS_DECREMENT) ∷ (codes "<<", CLASS_SHIFT_LEFT) ∷ (codes ">>", CLASS_SHIFT_RIGHT)
    ∷ (codes "&^", CLASS_AMP_CARET) ∷ []

-- operators with `=`
abbrev pub updating_signs : List (List ℕ × ℕ)
updating_signs =
    (codes "+=", CLASS_PLUS_ASSIGN) ∷ (codes "-=", CLASS_MINUS_ASSIGN) ∷ (codes "*=", CLASS_STAR_ASSIGN)
    ∷ (codes "/=", CLASS_SLASH_ASSIGN) ∷ (codes "%=", CLASS_PERCENT_ASSIGN) ∷ (codes "&=", CLASS_AMP_ASSIGN)
    ∷ (codes "|=", CLASS_BAR_ASSIGN) ∷ (codes "^=", CLASS_CARET_ASSIGN) ∷ (codes "<<=", CLASS_SHIFT_LEFT_ASSIGN)
    ∷ (codes ">>=", CLASS_SHIFT_RIGHT_ASSIGN) ∷ (codes "&^=", CLASS_AMP_CARET_ASSIGN) ∷ []

-- operators of Go that no package of the profile has
abbrev pub outside_signs : List (List ℕ × ℕ)
outside_signs =
    (codes "<-", CLASS_OUTSIDE) ∷ (codes "...", CLASS_OUTSIDE) ∷ []

-- a sign that stands in none of these lists has a class that no rule of the grammar has
abbrev pub sign_class : List ℕ → ℕ
sign_class bytes = listed marks (listed operators_of_one (listed operators_of_two (listed updating_signs (listed outside_signs CLASS_UNKNOWN bytes) bytes) bytes) bytes) bytes

unfoldable pub class_of : Kind → List ℕ → ℕ
class_of Word bytes = word_class bytes
class_of Number bytes = CLASS_NUMBER
class_of Text bytes = CLASS_TEXT
class_of Sign bytes = sign_class bytes
class_of Semi bytes = CLASS_SEMI

-- a token of a text as the grammar sees it
abbrev pub seen_as : List ℕ → Token → Lexeme
seen_as text t = record { class = class_of t.kind (slice_range text t.start t.end); start = t.start; end = t.end }

-- all tokens of a text
abbrev pub seen : List ℕ → List Token → List Lexeme
seen text tokens = map (seen_as text) tokens
