-- The published grammar of terms, production by production, with the levels of nesting.
--
-- The first number of a relation is the level before its tokens, the second one, where there is one, the level behind
-- them: a binary or a unary operator stays open for the rest of the largest term that it is part of, all others give
-- their level back.
use Rattle.std.specs.Prelude.{◌≡◌, ℕ, ◌+◌, true, List, [], ◌∷◌, ◌++◌, ◌⊎◌}
use Rattle.gv_grammar.specs.Derivation.{is_among}
use Rattle.gv_grammar.specs.Text.{Placed, plain, opens}
use Rattle.gv_termread.specs.declared.generated.term_table.TheConstants.{CLASS_AMP, CLASS_AMP_CARET, CLASS_AND_AND, CLASS_AT_LEAST, CLASS_AT_MOST, CLASS_AT_WORD, CLASS_BANG, CLASS_BAR, CLASS_BLOCKS_WORD, CLASS_BYTES_WORD, CLASS_CARET, CLASS_CAT_WORD, CLASS_COMMA, CLASS_DEL_WORD, CLASS_EQUAL, CLASS_FALSE_WORD, CLASS_FITS_WORD, CLASS_GET_WORD, CLASS_GREATER, CLASS_HAS_WORD, CLASS_IF_WORD, CLASS_IMP_WORD, CLASS_IS_ZERO_WORD, CLASS_LE64_WORD, CLASS_LEN_WORD, CLASS_LESS, CLASS_L_PAREN, CLASS_MAP_WB_WORD, CLASS_MAP_WW_WORD, CLASS_MINUS, CLASS_NIL_SLICE_WORD, CLASS_NIL_WORD, CLASS_NOT_EQUAL, CLASS_NO_CALL_WORD, CLASS_OR_OR, CLASS_PERCENT, CLASS_PLUS, CLASS_PUT64_WORD, CLASS_PUT_WORD, CLASS_REFS_WORD, CLASS_R_PAREN, CLASS_SHIFT_LEFT, CLASS_SHIFT_RIGHT, CLASS_SLASH, CLASS_SL_WORD, CLASS_STAR, CLASS_SUB_WORD, CLASS_S_CAP_WORD, CLASS_S_LEN_WORD, CLASS_TRUE_WORD, CLASS_UN64_WORD, CLASS_UPD_WORD, CLASS_WORDS_WORD}
use Rattle.gv_termread.specs.declared.token.SeenToken.{SeenToken}
use Rattle.gv_termread.specs.declared.placed.PlacedTerm.{PlacedTerm}
use Rattle.gv_termread.specs.Trees as read

abbrev pub Tokens : Type 0
Tokens = List (Placed SeenToken)

abbrev pub Is : ℕ → SeenToken → Type 0
Is class t = t.class ≡ class

abbrev pub AnyOf : List ℕ → SeenToken → Type 0
AnyOf classes t = is_among t.class classes ≡ true

-- What a text has in which terms stand: its bytes, the classes of its words that are neither constants nor functions of
-- terms, and those of its numbers below 2^64.
pub record Lexicon : Type 0 where
  pub text : List ℕ
  pub names : List ℕ
  pub numbers : List ℕ

-- ---- words

-- the functions that take a number and a term, one term, two terms, three terms
abbrev pub makers : List ℕ
makers = CLASS_BYTES_WORD ∷ CLASS_WORDS_WORD ∷ CLASS_REFS_WORD ∷ CLASS_BLOCKS_WORD ∷ []

abbrev pub of_one : List ℕ
of_one = CLASS_LEN_WORD ∷ CLASS_IS_ZERO_WORD ∷ CLASS_LE64_WORD ∷ CLASS_UN64_WORD ∷ CLASS_S_LEN_WORD ∷ CLASS_S_CAP_WORD ∷ []

abbrev pub of_two : List ℕ
of_two = CLASS_IMP_WORD ∷ CLASS_FITS_WORD ∷ CLASS_AT_WORD ∷ CLASS_CAT_WORD ∷ CLASS_PUT64_WORD ∷ CLASS_GET_WORD ∷ CLASS_HAS_WORD ∷ CLASS_DEL_WORD ∷ []

abbrev pub of_three : List ℕ
of_three = CLASS_IF_WORD ∷ CLASS_UPD_WORD ∷ CLASS_SUB_WORD ∷ CLASS_PUT_WORD ∷ CLASS_SL_WORD ∷ []

abbrev pub constants : List ℕ
constants = CLASS_TRUE_WORD ∷ CLASS_FALSE_WORD ∷ CLASS_NIL_WORD ∷ CLASS_NIL_SLICE_WORD ∷ CLASS_NO_CALL_WORD ∷ CLASS_MAP_WW_WORD ∷ CLASS_MAP_WB_WORD ∷ []

-- a variable is any word but a constant
abbrev pub IsVariable : Lexicon → SeenToken → Type 0
IsVariable w t = AnyOf w.names t ⊎ (AnyOf makers t ⊎ (AnyOf of_one t ⊎ (AnyOf of_two t ⊎ AnyOf of_three t)))

-- ---- operators

abbrev pub comparing : List ℕ
comparing = CLASS_EQUAL ∷ CLASS_NOT_EQUAL ∷ CLASS_LESS ∷ CLASS_AT_MOST ∷ CLASS_GREATER ∷ CLASS_AT_LEAST ∷ []

abbrev pub adding : List ℕ
adding = CLASS_PLUS ∷ CLASS_MINUS ∷ CLASS_BAR ∷ CLASS_CARET ∷ []

abbrev pub multiplying : List ℕ
multiplying = CLASS_STAR ∷ CLASS_SLASH ∷ CLASS_PERCENT ∷ CLASS_SHIFT_LEFT ∷ CLASS_SHIFT_RIGHT ∷ CLASS_AMP ∷ CLASS_AMP_CARET ∷ []

abbrev pub inverting : List ℕ
inverting = CLASS_BANG ∷ CLASS_CARET ∷ []

-- ---- terms

mutual
  -- Term = Disjunction . Its levels end with it.
  pub data IsTerm (w : Lexicon) : ℕ → PlacedTerm → Tokens → Type 0 where
    term : {n m : ℕ} {e : PlacedTerm} {ts : Tokens} → IsDisjunction w n e m ts → IsTerm w n e ts

  -- Disjunction = Conjunction | Disjunction "||" Conjunction .
  pub data IsDisjunction (w : Lexicon) : ℕ → PlacedTerm → ℕ → Tokens → Type 0 where
    conjunction : {n m : ℕ} {e : PlacedTerm} {ts : Tokens} → IsConjunction w n e m ts → IsDisjunction w n e m ts
    or : {n m k : ℕ} (t : SeenToken) {a b : PlacedTerm} {ts us : Tokens} → IsDisjunction w n a m ts → Is CLASS_OR_OR t → IsConjunction w (m + 1) b k us
        → IsDisjunction w n (read.binary t a b) k (ts ++ opens m t ∷ us)

  -- Conjunction = Comparison | Conjunction "&&" Comparison .
  pub data IsConjunction (w : Lexicon) : ℕ → PlacedTerm → ℕ → Tokens → Type 0 where
    comparison : {n m : ℕ} {e : PlacedTerm} {ts : Tokens} → IsComparison w n e m ts → IsConjunction w n e m ts
    and : {n m k : ℕ} (t : SeenToken) {a b : PlacedTerm} {ts us : Tokens} → IsConjunction w n a m ts → Is CLASS_AND_AND t → IsComparison w (m + 1) b k us
        → IsConjunction w n (read.binary t a b) k (ts ++ opens m t ∷ us)

  -- Comparison = Sum | Comparison ( "==" | "!=" | "<" | "<=" | ">" | ">=" ) Sum .
  pub data IsComparison (w : Lexicon) : ℕ → PlacedTerm → ℕ → Tokens → Type 0 where
    sum : {n m : ℕ} {e : PlacedTerm} {ts : Tokens} → IsSum w n e m ts → IsComparison w n e m ts
    compare : {n m k : ℕ} (t : SeenToken) {a b : PlacedTerm} {ts us : Tokens} → IsComparison w n a m ts → AnyOf comparing t → IsSum w (m + 1) b k us
        → IsComparison w n (read.binary t a b) k (ts ++ opens m t ∷ us)

  -- Sum = Product | Sum ( "+" | "-" | "|" | "^" ) Product .
  pub data IsSum (w : Lexicon) : ℕ → PlacedTerm → ℕ → Tokens → Type 0 where
    product : {n m : ℕ} {e : PlacedTerm} {ts : Tokens} → IsProduct w n e m ts → IsSum w n e m ts
    add : {n m k : ℕ} (t : SeenToken) {a b : PlacedTerm} {ts us : Tokens} → IsSum w n a m ts → AnyOf adding t → IsProduct w (m + 1) b k us
        → IsSum w n (read.binary t a b) k (ts ++ opens m t ∷ us)

  -- Product = Unary | Product ( "*" | "/" | "%" | "<<" | ">>" | "&" | "&^" ) Unary .
  pub data IsProduct (w : Lexicon) : ℕ → PlacedTerm → ℕ → Tokens → Type 0 where
    unary : {n m : ℕ} {e : PlacedTerm} {ts : Tokens} → IsUnary w n e m ts → IsProduct w n e m ts
    multiply : {n m k : ℕ} (t : SeenToken) {a b : PlacedTerm} {ts us : Tokens} → IsProduct w n a m ts → AnyOf multiplying t → IsUnary w (m + 1) b k us
        → IsProduct w n (read.binary t a b) k (ts ++ opens m t ∷ us)

  -- Unary = Prim | ( "!" | "^" ) Unary .
  pub data IsUnary (w : Lexicon) : ℕ → PlacedTerm → ℕ → Tokens → Type 0 where
    prim : {n : ℕ} {e : PlacedTerm} {ts : Tokens} → IsPrim w n e ts → IsUnary w n e n ts
    invert : {n m : ℕ} (t : SeenToken) {e : PlacedTerm} {ts : Tokens} → AnyOf inverting t → IsUnary w (n + 1) e m ts
        → IsUnary w n (read.unary t e) m (opens n t ∷ ts)

  -- Prim = number | constant | id | "(" Term ")" | maker "(" number "," Term ")" | function "(" Term { "," Term } ")" .
  pub data IsPrim (w : Lexicon) : ℕ → PlacedTerm → Tokens → Type 0 where
    number : {n : ℕ} (t : SeenToken) → AnyOf w.numbers t → IsPrim w n (read.number t) (plain t ∷ [])
    constant : {n : ℕ} (t : SeenToken) → AnyOf constants t → IsPrim w n (read.constant t) (plain t ∷ [])
    variable : {n : ℕ} (t : SeenToken) → IsVariable w t → IsPrim w n (read.variable w.text t) (plain t ∷ [])
    paren : {n : ℕ} (o c : SeenToken) {e : PlacedTerm} {ts : Tokens} → Is CLASS_L_PAREN o → IsTerm w (n + 1) e ts → Is CLASS_R_PAREN c
        → IsPrim w n (read.in_parens o e) (opens n o ∷ ts ++ plain c ∷ [])
    maker : {n : ℕ} (f o k s c : SeenToken) {e : PlacedTerm} {ts : Tokens} → AnyOf makers f → Is CLASS_L_PAREN o → AnyOf w.numbers k → Is CLASS_COMMA s
        → IsTerm w (n + 1) e ts → Is CLASS_R_PAREN c
        → IsPrim w n (read.maker f k e) (plain f ∷ opens n o ∷ plain k ∷ plain s ∷ ts ++ plain c ∷ [])
    one : {n : ℕ} (f o c : SeenToken) {a : PlacedTerm} {ts : Tokens} → AnyOf of_one f → Is CLASS_L_PAREN o → IsTerm w (n + 1) a ts → Is CLASS_R_PAREN c
        → IsPrim w n (read.apply f (a ∷ [])) (plain f ∷ opens n o ∷ ts ++ plain c ∷ [])
    two : {n : ℕ} (f o s c : SeenToken) {a b : PlacedTerm} {ts us : Tokens} → AnyOf of_two f → Is CLASS_L_PAREN o → IsTerm w (n + 1) a ts → Is CLASS_COMMA s
        → IsTerm w (n + 1) b us → Is CLASS_R_PAREN c
        → IsPrim w n (read.apply f (a ∷ b ∷ [])) (plain f ∷ opens n o ∷ ts ++ plain s ∷ us ++ plain c ∷ [])
    three : {n : ℕ} (f o s r c : SeenToken) {a b d : PlacedTerm} {ts us vs : Tokens} → AnyOf of_three f → Is CLASS_L_PAREN o → IsTerm w (n + 1) a ts
        → Is CLASS_COMMA s → IsTerm w (n + 1) b us → Is CLASS_COMMA r
        → IsTerm w (n + 1) d vs → Is CLASS_R_PAREN c
        → IsPrim w n (read.apply f (a ∷ b ∷ d ∷ [])) (plain f ∷ opens n o ∷ ts ++ plain s ∷ us ++ plain r ∷ vs ++ plain c ∷ [])
