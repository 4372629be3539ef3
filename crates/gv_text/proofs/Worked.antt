-- The definitions at small texts.
use Rattle.std.proofs.Common.{◌≡◌, Some, None, codes, refl, true, false, [], ◌∷◌}
use Rattle.gv_base.specs.declared.answers.Code.TheVariants as fault
use Rattle.gv_text.specs.Digits.{value_of, up_to, largest_word}
use Rattle.gv_text.specs.Gaps.{blank_length, line_length}
use Rattle.gv_text.specs.Judging.{mark_length}
use Rattle.gv_text.specs.Unexpected.{unexpected_token}

hexadecimal : value_of 16 (codes "aF_0") ≡ 2800
unfolding value_of
hexadecimal = refl

largest : up_to largest_word (value_of 10 (codes "18446744073709551615")) ≡ Some 18446744073709551615
unfolding value_of
largest = refl

too_large : up_to largest_word (value_of 10 (codes "18446744073709551616")) ≡ None
unfolding value_of
too_large = refl

one_blank : blank_length (codes "  x") ≡ 1
one_blank = refl

comment_without_its_newline : line_length (codes "//a/* \nb") ≡ 6
comment_without_its_newline = refl

mark_of_a_text : mark_length (0xEF ∷ 0xBB ∷ 0xBF ∷ 120 ∷ []) ≡ 3
mark_of_a_text = refl

half_a_mark : mark_length (0xEF ∷ 0xBB ∷ []) ≡ 0
half_a_mark = refl

token_of_a_text : unexpected_token 9 (Some (record { start = 4; is_large = false })) ≡ (4, fault.Unexpected)
token_of_a_text = refl

large_number : unexpected_token 9 (Some (record { start = 4; is_large = true })) ≡ (4, fault.BadNumber)
large_number = refl

no_token_is_left : unexpected_token 9 None ≡ (9, fault.EndOfText)
no_token_is_left = refl
