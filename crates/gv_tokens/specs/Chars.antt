-- Characters, and those of names.
use Rattle.std.specs.Prelude.{ℕ, ◌+◌, Bool, true, false, ◌||◌, ◌==◌, if◌then◌else◌, Option, None, List, [], ◌∷◌, length, take, slice_get, nat_lt}
use Rattle.std.specs.Str.{chars, is_utf8, continuation_len}
use Rattle.std.specs.Option.{option_map_or}
use Rattle.unicode.specs.GeneralCategory.{general_category}
use Rattle.ucd_category.specs.declared.GeneralCategory.{GeneralCategory}
use Rattle.ucd_category.specs.declared.GeneralCategory.TheVariants.{UppercaseLetter, LowercaseLetter, TitlecaseLetter, ModifierLetter, OtherLetter, DecimalNumber}

-- the first of the characters that these bytes are the UTF-8 of
unfoldable pub char_of : List ℕ → Option ℕ
char_of bytes = if is_utf8 bytes then slice_get (chars bytes) 0 else None

-- The character that a text begins with, where it begins with one: its first byte tells how many bytes it has.
unfoldable pub first_char : List ℕ → Option ℕ
first_char [] = None
first_char (b ∷ bs) =
    if nat_lt (length (b ∷ bs)) (1 + continuation_len b) then None else char_of (take (1 + continuation_len b) (b ∷ bs))

-- the general categories Lu, Ll, Lt, Lm and Lo
abbrev pub is_letter_category : GeneralCategory → Bool
is_letter_category UppercaseLetter = true
is_letter_category LowercaseLetter = true
is_letter_category TitlecaseLetter = true
is_letter_category ModifierLetter = true
is_letter_category OtherLetter = true
is_letter_category _ = false

-- the general category Nd
abbrev pub is_digit_category : GeneralCategory → Bool
is_digit_category DecimalNumber = true
is_digit_category _ = false

-- what an identifier may begin with
abbrev pub is_letter : ℕ → Bool
is_letter c = c == 95 || is_letter_category (general_category c)

-- what an identifier may go on with
abbrev pub is_letter_or_digit : ℕ → Bool
is_letter_or_digit c = is_letter c || is_digit_category (general_category c)

abbrev pub begins_with : (ℕ → Bool) → List ℕ → Bool
begins_with test text = option_map_or test (first_char text) false
