-- Operators and punctuation.
use Rattle.std.specs.Prelude.{ℕ, Bool, ◌||◌, if◌then◌else◌, List, [], ◌∷◌, length, take, codes}
use Rattle.gv_text.specs.Signs.{is_among}

abbrev pub signs_of_one : List (List ℕ)
signs_of_one =
    codes "(" ∷ codes ")" ∷ codes "[" ∷ codes "]" ∷ codes "{" ∷ codes "}" ∷ codes "," ∷ codes ";" ∷ codes ":" ∷ codes "="
    ∷ codes "!" ∷ codes "<" ∷ codes ">" ∷ codes "+" ∷ codes "-" ∷ codes "*" ∷ codes "/" ∷ codes "%" ∷ codes "&" ∷ codes "|"
    ∷ codes "^" ∷ codes "?" ∷ []

abbrev pub signs_of_two : List (List ℕ)
signs_of_two =
    codes ":=" ∷ codes "->" ∷ codes ".." ∷ codes "==" ∷ codes "!=" ∷ codes "<=" ∷ codes ">=" ∷ codes "&&" ∷ codes "||"
    ∷ codes "<<" ∷ codes ">>" ∷ codes "&^" ∷ []

unfoldable pub is_sign : List ℕ → Bool
is_sign text = is_among signs_of_one text || is_among signs_of_two text

-- the length of the longest sign that a text begins with, or 0
unfoldable pub sign_length : List ℕ → ℕ
sign_length text =
    if is_sign (take 2 text) then length (take 2 text) else (if is_sign (take 1 text) then length (take 1 text) else 0)
