-- Identifiers and keywords as pieces.
use Rattle.std.specs.Prelude.{ℕ, zero, suc, ◌+◌, if◌then◌else◌, List, [], ◌∷◌}
use Rattle.std.specs.Str.{continuation_len}
use Rattle.gv_tokens.specs.Chars.{begins_with, is_letter, is_letter_or_digit}

-- The letters and digits at the start; the first number counts the bytes that are left of a character that is among them.
unfoldable pub letters_run : ℕ → List ℕ → ℕ
letters_run left [] = 0
letters_run (suc left) (b ∷ bs) = 1 + letters_run left bs
letters_run zero (b ∷ bs) = if begins_with is_letter_or_digit (b ∷ bs) then 1 + letters_run (continuation_len b) bs else 0

-- a letter, and letters and digits after it; or nothing
unfoldable pub word_length : List ℕ → ℕ
word_length text = if begins_with is_letter text then letters_run 0 text else 0
