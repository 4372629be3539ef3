-- The JSON line of an answer: one object (RFC 8259) in compact form, and a newline.
use Rattle.std.specs.Prelude.{◌≡◌, Some, ℕ, ◌+◌, ◌/◌, ◌%◌, ◌==◌, nat_lt, if◌then◌else◌, List, [], ◌∷◌, ◌++◌, map, flat_map, codes, decimal, Bool, true, not}
use Rattle.std.specs.List.{list_all}
use Rattle.std.specs.Str.{is_utf8}
use Rattle.serde_json.specs.Data.{Data, string, array, number, unsigned, object, member, no_members}
use Rattle.serde_json.specs.Read.{read}
use Rattle.serde_json.specs.View.{items_of}

-- ---- texts

abbrev pub hex_digit : ℕ → ℕ
hex_digit d = if nat_lt d 10 then 48 + d else 87 + d

-- A byte of a text as it stands between quotes: a quote and a backslash stand behind a backslash, five control characters have a letter, the
-- other ones `\u00` and two hexadecimal digits in lower case. All other bytes stand for themselves, so letters that aren't ASCII are UTF-8.
abbrev pub in_quotes : ℕ → List ℕ
in_quotes x =
    if x == 34 then codes "\\\""
    else if x == 92 then codes "\\\\"
    else if x == 8 then codes "\\b"
    else if x == 9 then codes "\\t"
    else if x == 10 then codes "\\n"
    else if x == 12 then codes "\\f"
    else if x == 13 then codes "\\r"
    else if nat_lt x 32 then codes "\\u00" ++ hex_digit (x / 16) ∷ hex_digit (x % 16) ∷ []
    else x ∷ []

abbrev pub quoted : List ℕ → List ℕ
quoted text = codes "\"" ++ flat_map in_quotes text ++ codes "\""

-- bytes as a text: themselves, or the empty text where they are no UTF-8
abbrev pub as_text : List ℕ → List ℕ
as_text bytes = if is_utf8 bytes then bytes else []

-- ---- lists

abbrev pub between_commas : List (List ℕ) → List ℕ
between_commas [] = []
between_commas (item ∷ []) = item
between_commas (item ∷ next ∷ items) = item ++ codes "," ++ between_commas (next ∷ items)

-- a list of bytes as a list of texts
abbrev pub list_of : List (List ℕ) → List ℕ
list_of lines = codes "[" ++ between_commas (map (λ line. quoted (as_text line)) lines) ++ codes "]"

-- ---- the line

-- the object, of the digests and the lines, each as a list of texts, and the status as a number
abbrev pub object_of : (digests lines : List (List ℕ)) → ℕ → List ℕ
object_of digests lines status =
    codes "{\"digests\":" ++ list_of digests ++ codes ",\"lines\":" ++ list_of lines ++ codes ",\"status\":" ++ decimal status ++ codes "}"

abbrev pub line_of : (digests lines : List (List ℕ)) → ℕ → List ℕ
line_of digests lines status = object_of digests lines status ++ 10 ∷ []

-- ---- what it reads as

abbrev pub texts : List (List ℕ) → Data
texts lines = array (items_of (map (λ line. string (as_text line)) lines))

-- the object as a value: what a reader of JSON makes of the line
abbrev pub value_of : (digests lines : List (List ℕ)) → ℕ → Data
value_of digests lines status =
    object (member (codes "digests") (texts digests) (member (codes "lines") (texts lines) (member (codes "status") (number (unsigned status)) no_members)))

-- no newline stands among the bytes
abbrev pub is_one_line : List ℕ → Bool
is_one_line = list_all (λ x. not (x == 10))

-- a text is one line: a newline behind what a reader of JSON makes this value of
pub record IsLineOf (text : List ℕ) (value : Data) : Type 0 where
  pub json : List ℕ
  pub whole : text ≡ json ++ 10 ∷ []
  pub single : is_one_line json ≡ true
  pub reads : read json ≡ Some value
