-- Literals and names by their bytes.
use Rattle.std.specs.Prelude.{ℕ, Bool, true, false, ◌==◌, if◌then◌else◌, List, [], ◌∷◌, drop, take, length, ◌-◌}
use Rattle.gv_text.specs.Digits.{value_of}
use Rattle.gv_tokens.specs.Chars.{begins_with}
use Rattle.gv_tokens.specs.Numbers.{base_of, radix_of, prefix_length}
use Rattle.unicode.specs.GeneralCategory.{general_category}
use Rattle.ucd_category.specs.declared.GeneralCategory.{GeneralCategory}
use Rattle.ucd_category.specs.declared.GeneralCategory.TheVariants.{UppercaseLetter}

-- the value of a number of the profile
abbrev pub number_value : List ℕ → ℕ
number_value bytes = value_of (radix_of (base_of bytes)) (drop (prefix_length (base_of bytes)) bytes)

abbrev pub is_upper_category : GeneralCategory → Bool
is_upper_category UppercaseLetter = true
is_upper_category _ = false

-- a name that begins with a character of the general category Lu
abbrev pub is_exported : List ℕ → Bool
is_exported name = begins_with (λ c. is_upper_category (general_category c)) name

-- the last element of a path: what stands behind the last `/`
abbrev pub last_element : List ℕ → List ℕ → List ℕ
last_element element [] = element
last_element element (b ∷ bs) = if b == 47 then last_element bs bs else last_element element bs

-- a path between its quotes
abbrev pub unquoted : List ℕ → List ℕ
unquoted bytes = take (length bytes - 2) (drop 1 bytes)

abbrev pub element_of : List ℕ → List ℕ
element_of bytes = last_element (unquoted bytes) (unquoted bytes)
