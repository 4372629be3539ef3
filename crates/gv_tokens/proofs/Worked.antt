-- The definitions at small texts.
use Rattle.std.proofs.Common.{◌≡◌, Some, None, [], ◌∷◌, codes, refl}
use Rattle.gv_base.specs.declared.answers.Code.TheVariants as fault
use Rattle.gv_base.specs.declared.token.Kind.TheVariants as kind
use Rattle.gv_text.specs.Tokens.{token}
use Rattle.gv_text.specs.Digits.{value_of}
use Rattle.gv_text.specs.Scanning.{piece}
use Rattle.gv_tokens.specs.declared.form.Form.TheVariants.{Blank, LineComment, BlockComment, Word, Number, Text, Sign}
use Rattle.gv_tokens.specs.Comments.{block_rest}
use Rattle.gv_tokens.specs.Faults.{fault_of}
use Rattle.gv_tokens.specs.Forms.{form_of}
use Rattle.gv_tokens.specs.Layout.{laid}
use Rattle.gv_tokens.specs.Numbers.{number_length, number_fault, is_spaced}
use Rattle.gv_tokens.specs.Pieces.{length_of}
use Rattle.gv_tokens.specs.Signs.{is_sign, sign_length}

and_not_assigned : length_of (form_of (codes "&^=x")) (codes "&^=x") ≡ 3
unfolding form_of sign_length is_sign
and_not_assigned = refl

comment_of_one_line : length_of (form_of (codes "//a/* \nb")) (codes "//a/* \nb") ≡ 6
unfolding form_of
comment_of_one_line = refl

comment_to_its_end : length_of (form_of (codes "/*/ **/*/")) (codes "/*/ **/*/") ≡ 7
unfolding form_of block_rest
comment_to_its_end = refl

malformed_to_its_end : length_of (form_of (codes "0x1.8+2")) (codes "0x1.8+2") ≡ 5
unfolding form_of is_sign number_length
malformed_to_its_end = refl

malformed : fault_of Number (codes "0x1.8") ≡ Some (0, fault.BadNumber)
unfolding number_fault is_spaced
malformed = refl

octal_of_c : fault_of Number (codes "017") ≡ Some (0, fault.NotInProfile)
unfolding number_fault is_spaced
octal_of_c = refl

largest : fault_of Number (codes "18_446_744_073_709_551_615") ≡ None
unfolding number_fault is_spaced value_of
largest = refl

too_large : fault_of Number (codes "0x1_0000_0000_0000_0000") ≡ Some (0, fault.BadNumber)
unfolding number_fault is_spaced value_of
too_large = refl

escaped : fault_of Text (codes "\"a\\n\"") ≡ Some (2, fault.BadChar)
escaped = refl

-- `f /*newline*/ + // c` and `1`
semicolon_where_the_line_ends :
    laid 0 None
    (piece Word (codes "f") ∷ piece Blank (codes " ") ∷ piece BlockComment (codes "/*\n*/") ∷ piece Sign (codes "+")
    ∷ piece LineComment (codes "// c") ∷ piece Blank (codes "\n") ∷ piece Number (codes "1") ∷ [])
    ≡ token 0 1 kind.Word ∷ token 1 1 kind.Semi ∷ token 7 8 kind.Sign ∷ token 13 14 kind.Number ∷ token 14 14 kind.Semi ∷ []
semicolon_where_the_line_ends = refl
