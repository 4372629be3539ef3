-- The definitions at small texts.
use Rattle.std.proofs.Common.{◌≡◌, Some, None, [], ◌∷◌, codes, refl}
use Rattle.gv_base.specs.declared.answers.Code.TheVariants as fault
use Rattle.gv_base.specs.declared.token.Kind.TheVariants as kind
use Rattle.gv_text.specs.Tokens.{token}
use Rattle.gv_text.specs.Scanning.{piece}
use Rattle.gv_text.specs.Digits.{value_of}
use Rattle.gv_lex.specs.declared.form.Form.TheVariants.{Blank, Comment, Word, Number, Literal, Sign}
use Rattle.gv_lex.specs.Forms.{form_of}
use Rattle.gv_lex.specs.Layout.{laid}
use Rattle.gv_lex.specs.Names.{name_rest}
use Rattle.gv_lex.specs.Pieces.{length_of, fault_of}
use Rattle.gv_lex.specs.Signs.{is_sign, sign_length}

dots_within : length_of (form_of (codes "a.b.2..c")) (codes "a.b.2..c") ≡ 5
unfolding form_of name_rest
dots_within = refl

dot_at_the_end : length_of (form_of (codes "a.")) (codes "a.") ≡ 1
unfolding form_of name_rest
dot_at_the_end = refl

range : length_of (form_of (codes "..8")) (codes "..8") ≡ 2
unfolding form_of sign_length is_sign
range = refl

lone_dot : length_of (form_of (codes ".8")) (codes ".8") ≡ 0
unfolding form_of sign_length is_sign
lone_dot = refl

comment : length_of (form_of (codes "//a \nb")) (codes "//a \nb") ≡ 4
unfolding form_of
comment = refl

run_of_a_number : length_of (form_of (codes "0x1g_.5")) (codes "0x1g_.5") ≡ 5
unfolding form_of
run_of_a_number = refl

malformed : fault_of Number (codes "0x1g_") ≡ Some (0, fault.BadNumber)
malformed = refl

leading_zero : fault_of Number (codes "07") ≡ Some (0, fault.BadNumber)
leading_zero = refl

largest_is_right : fault_of Number (codes "170141183460469231731687303715884105728") ≡ None
unfolding value_of
largest_is_right = refl

next_is_wrong : fault_of Number (codes "0x80000000000000000000000000000001") ≡ Some (0, fault.BadNumber)
unfolding value_of
next_is_wrong = refl

digits_of_bytes : length_of (form_of (codes "#ab1fg")) (codes "#ab1fg") ≡ 5
unfolding form_of
digits_of_bytes = refl

half_a_byte : fault_of Literal (codes "#abc") ≡ Some (0, fault.BadNumber)
half_a_byte = refl

no_bytes : fault_of Literal (codes "#") ≡ None
no_bytes = refl

-- `f;// c`, a newline, `#ab` and `*`
tokens_of_two_lines :
    laid 0
    (piece Word (codes "f") ∷ piece Sign (codes ";") ∷ piece Comment (codes "// c") ∷ piece Blank (codes "\n")
    ∷ piece Literal (codes "#ab") ∷ piece Sign (codes "*") ∷ [])
    ≡ token 0 1 kind.Word ∷ token 1 2 kind.Semi ∷ token 7 10 kind.Text ∷ token 10 11 kind.Sign ∷ []
tokens_of_two_lines = refl
