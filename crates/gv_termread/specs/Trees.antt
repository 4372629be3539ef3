-- What the tokens of a term stand for: operators, and terms with the places of their nodes.
use Rattle.std.specs.Prelude.{ℕ, ◌==◌, if◌then◌else◌, List, [], ◌∷◌, map}
use Rattle.gv_terms.specs.declared.operator.Operator.{Operator}
use Rattle.gv_terms.specs.declared.operator.Operator.TheVariants as operator
use Rattle.gv_terms.specs.declared.tree.RawTerm.TheVariants as raw
use Rattle.gv_termread.specs.declared.generated.term_table.TheConstants.{CLASS_BYTES_WORD, CLASS_WORDS_WORD, CLASS_REFS_WORD, CLASS_LEN_WORD, CLASS_IS_ZERO_WORD, CLASS_LE64_WORD, CLASS_UN64_WORD, CLASS_S_LEN_WORD, CLASS_S_CAP_WORD, CLASS_IMP_WORD, CLASS_FITS_WORD, CLASS_AT_WORD, CLASS_CAT_WORD, CLASS_PUT64_WORD, CLASS_GET_WORD, CLASS_HAS_WORD, CLASS_DEL_WORD, CLASS_IF_WORD, CLASS_UPD_WORD, CLASS_SUB_WORD, CLASS_PUT_WORD, CLASS_TRUE_WORD, CLASS_FALSE_WORD, CLASS_NIL_WORD, CLASS_NIL_SLICE_WORD, CLASS_NO_CALL_WORD, CLASS_MAP_WW_WORD, CLASS_OR_OR, CLASS_AND_AND, CLASS_EQUAL, CLASS_NOT_EQUAL, CLASS_LESS, CLASS_AT_MOST, CLASS_GREATER, CLASS_AT_LEAST, CLASS_PLUS, CLASS_MINUS, CLASS_BAR, CLASS_CARET, CLASS_STAR, CLASS_SLASH, CLASS_PERCENT, CLASS_SHIFT_LEFT, CLASS_SHIFT_RIGHT, CLASS_AMP, CLASS_BANG}
use Rattle.gv_termread.specs.declared.token.SeenToken.{SeenToken}
use Rattle.gv_termread.specs.declared.placed.PlacedTerm.{PlacedTerm}
use Rattle.gv_termread.specs.declared.placed.Places.TheVariants.{At}
use Rattle.gv_termread.specs.Seen.{bytes_from}

-- ---- words and signs

abbrev pub constant_by : ℕ → Operator
constant_by class =
    if class == CLASS_TRUE_WORD then operator.True else (if class == CLASS_FALSE_WORD then operator.False else (
    if class == CLASS_NIL_WORD then operator.Nil else (if class == CLASS_NIL_SLICE_WORD then operator.NilSlice else (
    if class == CLASS_NO_CALL_WORD then operator.NoCall else (if class == CLASS_MAP_WW_WORD then operator.MapWW else operator.MapWB)))))

-- a maker of so many copies
abbrev pub maker_by : ℕ → ℕ → Operator
maker_by class count =
    if class == CLASS_BYTES_WORD then operator.Bytes count else (if class == CLASS_WORDS_WORD then operator.Words count else (
    if class == CLASS_REFS_WORD then operator.Refs count else operator.Blocks count))

abbrev pub function_by : ℕ → Operator
function_by class =
    if class == CLASS_LEN_WORD then operator.Len else (if class == CLASS_IS_ZERO_WORD then operator.IsZero else (
    if class == CLASS_LE64_WORD then operator.Le64 else (if class == CLASS_UN64_WORD then operator.Un64 else (
    if class == CLASS_S_LEN_WORD then operator.SLen else (if class == CLASS_IMP_WORD then operator.Imp else (
    if class == CLASS_FITS_WORD then operator.Fits else (if class == CLASS_AT_WORD then operator.At else (
    if class == CLASS_CAT_WORD then operator.Cat else (if class == CLASS_PUT64_WORD then operator.Put64 else (
    if class == CLASS_GET_WORD then operator.Get else (if class == CLASS_HAS_WORD then operator.Has else (
    if class == CLASS_DEL_WORD then operator.Del else (if class == CLASS_IF_WORD then operator.If else (
    if class == CLASS_UPD_WORD then operator.Upd else (if class == CLASS_SUB_WORD then operator.Sub else (
    if class == CLASS_PUT_WORD then operator.Put else (if class == CLASS_S_CAP_WORD then operator.SCap else operator.Sl)))))))))))))))))

-- the signs that stand for an operator over their operands in order
abbrev pub sign_by : ℕ → Operator
sign_by class =
    if class == CLASS_OR_OR then operator.Or else (if class == CLASS_AND_AND then operator.And else (
    if class == CLASS_EQUAL then operator.Equal else (if class == CLASS_LESS then operator.Less else (
    if class == CLASS_AT_MOST then operator.AtMost else (if class == CLASS_PLUS then operator.Plus else (
    if class == CLASS_MINUS then operator.Minus else (if class == CLASS_BAR then operator.BitOr else (
    if class == CLASS_CARET then operator.BitXor else (if class == CLASS_STAR then operator.Times else (
    if class == CLASS_SLASH then operator.Divide else (if class == CLASS_PERCENT then operator.Remainder else (
    if class == CLASS_SHIFT_LEFT then operator.ShiftLeft else (if class == CLASS_SHIFT_RIGHT then operator.ShiftRight else (
    if class == CLASS_AMP then operator.BitAnd else operator.BitClear))))))))))))))

-- ---- terms

-- an operator over terms, whose node begins here
abbrev pub applied : ℕ → Operator → List PlacedTerm → PlacedTerm
applied start operator parts = record {
  start = start;
  term = raw.Apply operator (map (λ part. part.term) parts);
  places = At start (map (λ part. part.places) parts);
}

abbrev pub number : SeenToken → PlacedTerm
number t = applied t.start (operator.Number t.value) []

abbrev pub constant : SeenToken → PlacedTerm
constant t = applied t.start (constant_by t.class) []

-- a variable bears the bytes of its token
abbrev pub variable : List ℕ → SeenToken → PlacedTerm
variable text t = record { start = t.start; term = raw.Variable (bytes_from text t.start t.end); places = At t.start [] }

-- the same term, which now begins at a parenthesis
abbrev pub in_parens : SeenToken → PlacedTerm → PlacedTerm
in_parens brace inner = record { start = brace.start; term = inner.term; places = inner.places }

abbrev pub maker : SeenToken → SeenToken → PlacedTerm → PlacedTerm
maker name count item = applied name.start (maker_by name.class count.value) (item ∷ [])

abbrev pub apply : SeenToken → List PlacedTerm → PlacedTerm
apply name parts = applied name.start (function_by name.class) parts

-- `!` or `^` before a term
abbrev pub unary : SeenToken → PlacedTerm → PlacedTerm
unary sign inner = applied sign.start (if sign.class == CLASS_BANG then operator.Not else operator.Complement) (inner ∷ [])

-- `a > b` is `b < a`, `a >= b` is `b <= a`, and `a != b` is `!(a == b)`
abbrev pub binary : SeenToken → PlacedTerm → PlacedTerm → PlacedTerm
binary sign left right =
    if sign.class == CLASS_GREATER then applied left.start operator.Less (right ∷ left ∷ []) else (
    if sign.class == CLASS_AT_LEAST then applied left.start operator.AtMost (right ∷ left ∷ []) else (
    if sign.class == CLASS_NOT_EQUAL then applied left.start operator.Not (applied left.start operator.Equal (left ∷ right ∷ []) ∷ []) else
    applied left.start (sign_by sign.class) (left ∷ right ∷ [])))
