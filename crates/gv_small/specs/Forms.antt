-- The grammar that the small forms share: names, parameters and Sums. A relation `Is.. x before after` says that the tokens
-- `before` begin with an x and go on with `after`.
use Rattle.std.specs.Prelude.{◌≡◌, ℕ, ◌^◌, Bool, true, false, ◌&&◌, ◌||◌, ◌==◌, if◌then◌else◌, List, [], ◌∷◌, ◌++◌, not, nat_lt, nat_le, Option, Some, None, option_map, position, codes, All}
use Rattle.std.specs.List.{list_all}
use Rattle.std.specs.Str.{bytes_eq}
use Rattle.std.specs.Str.Parse.{digits_value}
use Rattle.gv_base.specs.declared.small.Part.{Part}
use Rattle.gv_base.specs.declared.small.Part.TheVariants.{Param, Number}
use Rattle.gv_base.specs.declared.small.Turn.{Turn}
use Rattle.gv_small.specs.Tokens.{Token, named, signed, arrowed, is_word_byte, is_among, plain}

-- ---- words

-- the words that Go and its profile keep for themselves
abbrev pub reserved_words : List (List ℕ)
reserved_words = codes "break" ∷ codes "case" ∷ codes "chan" ∷ codes "const" ∷ codes "continue" ∷ codes "default" ∷ codes "defer" ∷ codes "else"
    ∷ codes "fallthrough" ∷ codes "for" ∷ codes "func" ∷ codes "go" ∷ codes "goto" ∷ codes "if" ∷ codes "import" ∷ codes "interface" ∷ codes "map"
    ∷ codes "package" ∷ codes "range" ∷ codes "return" ∷ codes "select" ∷ codes "struct" ∷ codes "switch" ∷ codes "type" ∷ codes "var" ∷ codes "uint64"
    ∷ codes "byte" ∷ codes "bool" ∷ codes "true" ∷ codes "false" ∷ codes "nil" ∷ codes "make" ∷ codes "new" ∷ codes "len" ∷ codes "delete" ∷ []

abbrev pub is_digit : ℕ → Bool
is_digit b = nat_le 48 b && nat_le b 57

abbrev pub begins_with_digit : List ℕ → Bool
begins_with_digit [] = false
begins_with_digit (b ∷ bs) = is_digit b

abbrev pub begins_with_capital : List ℕ → Bool
begins_with_capital [] = false
begins_with_capital (b ∷ bs) = nat_le 65 b && nat_le b 90

abbrev pub is_reserved : List ℕ → Bool
is_reserved w = is_among reserved_words w

-- of a word: that it begins with no digit and is not reserved
abbrev pub is_name : List ℕ → Bool
is_name w = not (begins_with_digit w) && not (is_reserved w)

abbrev pub is_operation_name : List ℕ → Bool
is_operation_name w = is_name w && begins_with_capital w && not (bytes_eq w (codes "Recover"))

-- no name stands twice
abbrev pub is_distinct : List (List ℕ) → Bool
is_distinct [] = true
is_distinct (n ∷ ns) = not (is_among ns n) && is_distinct ns

abbrev pub has_leading_zero : List ℕ → Bool
has_leading_zero [] = false
has_leading_zero (b ∷ []) = false
has_leading_zero (b ∷ c ∷ bs) = b == 48

-- decimal digits without a leading zero
abbrev pub is_numeral : List ℕ → Bool
is_numeral w = begins_with_digit w && list_all is_digit w && not (has_leading_zero w)

-- the number that digits write, where it is below 2^64
abbrev pub word_number : List ℕ → Option ℕ
word_number w = if nat_lt (digits_value 10 w) (2 ^ 64) then Some (digits_value 10 w) else None

-- the number that a word is, where it is one below 2^64
abbrev pub number_of : List ℕ → Option ℕ
number_of w = if is_numeral w then word_number w else None

-- the place of a parameter's name, counted from 0
abbrev pub place_among : List (List ℕ) → List ℕ → Option ℕ
place_among params w = position (bytes_eq w) params

-- what a word in a Sum stands for
abbrev pub part_of : List (List ℕ) → List ℕ → Option Part
part_of params w = if begins_with_digit w then option_map Number (number_of w) else option_map Param (place_among params w)

-- ---- the grammar

-- one after the other, each as P says
pub data Many {S A : Type 0} (P : A → List S → List S → Type 0) : List A → List S → List S → Type 0 where
  none : {ts : List S} → Many P [] ts ts
  more : {a : A} {more : List A} {before middle after : List S} → P a before middle → Many P more middle after → Many P (a ∷ more) before after

-- `, NAME` and the words of its type
pub data IsNextParameter (kind : List Token) : List ℕ → List Token → List Token → Type 0 where
  next : {n : List ℕ} {after : List Token} → is_name n ≡ true → IsNextParameter kind n (signed 44 ∷ named n ∷ (kind ++ after)) after

-- the parameters of an operation, between commas
pub data AreParameters (kind : List Token) : List (List ℕ) → List Token → List Token → Type 0 where
  none : {ts : List Token} → AreParameters kind [] ts ts
  some : {n : List ℕ} {ns : List (List ℕ)} {ts after : List Token} → is_name n ≡ true → Many (IsNextParameter kind) ns ts after
      → AreParameters kind (n ∷ ns) (named n ∷ (kind ++ ts)) after

-- `+` or `-` and a part
pub data IsTurn (params : List (List ℕ)) : Turn → List Token → List Token → Type 0 where
  plus : {w : List ℕ} {part : Part} {after : List Token} → part_of params w ≡ Some part
      → IsTurn params (record { minus = false; part = part }) (signed 43 ∷ named w ∷ after) after
  minus : {w : List ℕ} {part : Part} {after : List Token} → part_of params w ≡ Some part
      → IsTurn params (record { minus = true; part = part }) (signed 45 ∷ named w ∷ after) after

-- a number alone, or a parameter and turns
pub data IsSum (params : List (List ℕ)) : Part → List Turn → List Token → List Token → Type 0 where
  number : {w : List ℕ} {v : ℕ} {after : List Token} → part_of params w ≡ Some (Number v) → IsSum params (Number v) [] (named w ∷ after) after
  turns : {w : List ℕ} {i : ℕ} {rest : List Turn} {ts after : List Token} → part_of params w ≡ Some (Param i) → Many (IsTurn params) rest ts after
      → IsSum params (Param i) rest (named w ∷ ts) after

-- a semicolon that may be left out before a closing brace
pub data MayEnd : List Token → List Token → Type 0 where
  absent : {ts : List Token} → MayEnd ts ts
  present : {ts : List Token} → MayEnd (signed 59 ∷ ts) ts
