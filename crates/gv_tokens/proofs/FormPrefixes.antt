-- The form of a piece shows in a prefix that holds the piece.
use Rattle.std.proofs.Common.{◌≡◌, ◌≤◌, ◌<◌, ◌&&◌, ◌||◌, ℕ, zero, suc, Bool, true, false, cond, eqb, List, [], ◌∷◌, take, refl, arith}
use borrow.Author.Tests.{eqb-true}
use Rattle.gv_text.specs.Bytes.{is_blank, is_decimal}
use Rattle.gv_text.specs.Gaps.{line_length}
use Rattle.gv_text.proofs.Prefixes.{KeepsPrefixes, blank_keeps, line_keeps}
use Rattle.gv_tokens.specs.declared.form.Form.{Form}
use Rattle.gv_tokens.specs.declared.form.Form.TheVariants.{Blank, LineComment, BlockComment, Word, Number, Text, RawText, Rune, Sign}
use Rattle.gv_tokens.specs.Bytes.{is_quote, is_backquote}
use Rattle.gv_tokens.specs.Comments.{block_length}
use Rattle.gv_tokens.specs.Forms.{form_of}
use Rattle.gv_tokens.specs.Numbers.{number_length}
use Rattle.gv_tokens.specs.Pieces.{length_of}
use Rattle.gv_tokens.specs.Signs.{is_sign}
use Rattle.gv_tokens.proofs.Prefixes.{block_keeps, text_keeps, raw_keeps, number_keeps}
use Rattle.gv_tokens.proofs.RunePrefixes.{rune_keeps}
use Rattle.gv_tokens.proofs.SignPrefixes.{sign_keeps}
use Rattle.gv_tokens.proofs.WordPrefixes.{word_keeps}

pub length_keeps : (form : Form) → KeepsPrefixes (length_of form)
length_keeps Blank = blank_keeps
length_keeps LineComment = line_keeps
length_keeps BlockComment = block_keeps
length_keeps Word = word_keeps
length_keeps Number = number_keeps
length_keeps Text = text_keeps
length_keeps RawText = raw_keeps
length_keeps Rune = rune_keeps
length_keeps Sign = sign_keeps

-- the chain of tests by which a form is found
abbrev chain : Bool → Bool → Bool → Bool → Bool → Bool → Bool → Bool → Form
chain blank quote back rune line block number sign =
    cond blank Blank (cond quote Text (cond back RawText (cond rune Rune (cond line LineComment (cond block BlockComment (cond number Number (cond sign Sign Word)))))))

-- where the second byte tells the form, the piece has two bytes
by_second : (blank quote back rune slash line block decimal point digit sign : Bool) (len : Form → ℕ)
    → (slash && line ≡ true → 2 ≤ len LineComment) → (slash && block ≡ true → 2 ≤ len BlockComment) → (point && digit ≡ true → 2 ≤ len Number)
    → len (chain blank quote back rune (slash && line) (slash && block) (decimal || (point && digit)) sign) ≤ 1
    → chain blank quote back rune (slash && false) (slash && false) (decimal || (point && false)) sign
    ≡ chain blank quote back rune (slash && line) (slash && block) (decimal || (point && digit)) sign
by_second true quote back rune slash line block decimal point digit sign len f g h w = refl
by_second false true back rune slash line block decimal point digit sign len f g h w = refl
by_second false false true rune slash line block decimal point digit sign len f g h w = refl
by_second false false false true slash line block decimal point digit sign len f g h w = refl
by_second false false false false true true block decimal point digit sign len f g h w = absurd (omega (arith, f refl))
by_second false false false false true false true decimal point digit sign len f g h w = absurd (omega (arith, g refl))
by_second false false false false true false false true point digit sign len f g h w = refl
by_second false false false false true false false false true true sign len f g h w = absurd (omega (arith, h refl))
by_second false false false false true false false false true false sign len f g h w = refl
by_second false false false false true false false false false digit sign len f g h w = refl
by_second false false false false false line block true point digit sign len f g h w = refl
by_second false false false false false line block false true true sign len f g h w = absurd (omega (arith, h refl))
by_second false false false false false line block false true false sign len f g h w = refl
by_second false false false false false line block false false digit sign len f g h w = refl

-- such pieces do have two bytes
line_has_two : (a c : ℕ) (bs : List ℕ) → (eqb a 47 && eqb c 47) ≡ true → 2 ≤ line_length (a ∷ c ∷ bs)
line_has_two a c bs e = rw e (omega arith)

block_has_two : (a c : ℕ) (bs : List ℕ) → (eqb a 47 && eqb c 42) ≡ true → 2 ≤ block_length (a ∷ c ∷ bs)
block_has_two a c bs e = rw e (omega arith)

both : (a b : Bool) → (a && b) ≡ true → (a ≡ true) × (b ≡ true)
both true b e = (refl, e)
both false b e = absurd cc

fraction_has_two : (c : ℕ) (bs : List ℕ) → is_decimal c ≡ true → 2 ≤ number_length (46 ∷ c ∷ bs)
unfolding number_length
fraction_has_two c bs e = rw e (omega arith)

number_has_two : (a c : ℕ) (bs : List ℕ) → (eqb a 46 && is_decimal c) ≡ true → 2 ≤ number_length (a ∷ c ∷ bs)
number_has_two a c bs e =
    let parts = both (eqb a 46) (is_decimal c) e in
    let point : a ≡ 46 = eqb-true a 46 parts.0 in
    rw point (fraction_has_two c bs parts.1)

pub form_keeps : (text : List ℕ) (k : ℕ) → 0 < k → length_of (form_of text) text ≤ k → form_of (take k text) ≡ form_of text
unfolding form_of
form_keeps text zero p h = absurd (omega arith)
form_keeps [] (suc k) p h = refl
form_keeps (a ∷ []) (suc zero) p h = refl
form_keeps (a ∷ []) (suc (suc k)) p h = refl
form_keeps (a ∷ c ∷ bs) (suc (suc k)) p h = refl
form_keeps (a ∷ c ∷ bs) (suc zero) p h =
    by_second (is_blank a) (is_quote a) (is_backquote a) (eqb a 39) (eqb a 47) (eqb c 47) (eqb c 42) (is_decimal a) (eqb a 46) (is_decimal c) (is_sign (a ∷ []))
    (λ form. length_of form (a ∷ c ∷ bs)) (line_has_two a c bs) (block_has_two a c bs) (number_has_two a c bs) h
