-- The piece that a text begins with shows in a prefix that holds it.
use Rattle.std.proofs.Common.{◌≡◌, ◌≤◌, ◌<◌, ◌&&◌, ◌||◌, ℕ, zero, suc, Bool, true, false, cond, eqb, ◌+◌, List, [], ◌∷◌, take, refl, arith}
use Rattle.gv_text.specs.Bytes.{is_blank, is_decimal}
use Rattle.gv_text.specs.Gaps.{line_length}
use Rattle.gv_text.proofs.Prefixes.{KeepsPrefixes, one_step, run_keeps, optional_keeps, blank_keeps, line_keeps}
use Rattle.gv_text.proofs.Longest.{ShowsPieces}
use Rattle.gv_lex.specs.declared.form.Form.{Form}
use Rattle.gv_lex.specs.declared.form.Form.TheVariants.{Blank, Comment, Word, Number, Literal, Sign}
use Rattle.gv_lex.specs.Bytes.{is_name_start, is_name_byte, is_dot, is_hash, is_hex}
use Rattle.gv_lex.specs.Forms.{form_of}
use Rattle.gv_lex.specs.Literals.{hex_run}
use Rattle.gv_lex.specs.Names.{name_rest}
use Rattle.gv_lex.specs.Pieces.{length_of}
use Rattle.gv_lex.specs.Reading.{own}
use Rattle.gv_lex.specs.Signs.{is_sign, sign_length}

-- ---- identifiers

-- a byte that ends a prefix: a dot there belongs to no identifier, and a dot that belongs to one has a byte after it
last_byte : (name dot next : Bool) (n : ℕ) → (next ≡ true → 0 < n) → cond (name || (dot && next)) (1 + n) 0 ≤ 1
    → cond (name || (dot && false)) 1 0 ≡ cond (name || (dot && next)) (1 + n) 0
last_byte true dot next n f h = omega arith
last_byte false true true n f h = absurd (omega (arith, f refl))
last_byte false true false n f h = refl
last_byte false false next n f h = refl

name_byte_goes_on : (c : ℕ) (bs : List ℕ) → is_name_byte c ≡ true → 0 < name_rest (c ∷ bs)
unfolding name_rest
name_byte_goes_on c bs e = rw e (omega arith)

pub name_rest_keeps : KeepsPrefixes name_rest
unfolding name_rest
name_rest_keeps [] zero h = refl
name_rest_keeps [] (suc k) h = refl
name_rest_keeps (b ∷ bs) zero h = omega arith
name_rest_keeps (b ∷ []) (suc zero) h = refl
name_rest_keeps (b ∷ []) (suc (suc k)) h = refl
name_rest_keeps (b ∷ c ∷ bs) (suc zero) h = last_byte (is_name_byte b) (is_dot b) (is_name_byte c) (name_rest (c ∷ bs)) (name_byte_goes_on c bs) h
name_rest_keeps (b ∷ c ∷ bs) (suc (suc k)) h =
    one_step (is_name_byte b || (is_dot b && is_name_byte c)) (name_rest (c ∷ take k bs)) (name_rest (c ∷ bs)) (suc k) h (λ l. name_rest_keeps (c ∷ bs) (suc k) l)

-- ---- signs

abbrev picked : Bool → Bool → ℕ → ℕ → ℕ
picked s t m n = cond s m (cond t n 0)

no_sign : (s t : Bool) (n : ℕ) → n ≤ 0 → picked s t 0 0 ≡ n
no_sign true t n h = omega arith
no_sign false true n h = omega arith
no_sign false false n h = omega arith

one_sign : (s t : Bool) → picked s t 2 1 ≤ 1 → picked t t 1 1 ≡ picked s t 2 1
one_sign true t h = absurd (omega arith)
one_sign false true h = refl
one_sign false false h = refl

pub sign_keeps : KeepsPrefixes sign_length
unfolding sign_length
sign_keeps [] zero h = refl
sign_keeps [] (suc k) h = refl
sign_keeps (a ∷ bs) zero h = no_sign (is_sign []) (is_sign []) _ h
sign_keeps (a ∷ []) (suc zero) h = refl
sign_keeps (a ∷ []) (suc (suc k)) h = refl
sign_keeps (a ∷ b ∷ bs) (suc zero) h = one_sign (is_sign (a ∷ b ∷ [])) (is_sign (a ∷ [])) h
sign_keeps (a ∷ b ∷ bs) (suc (suc k)) h = refl

-- ---- each form

pub length_keeps : (form : Form) → KeepsPrefixes (length_of form)
length_keeps Blank = blank_keeps
length_keeps Comment = line_keeps
length_keeps Word = optional_keeps is_name_start name_rest name_rest_keeps
length_keeps Number = run_keeps is_name_byte
length_keeps Literal = optional_keeps is_hash hex_run (run_keeps is_hex)
length_keeps Sign = sign_keeps

-- the chain of tests by which a form is found
abbrev chain : Bool → Bool → Bool → Bool → Bool → Form
chain blank comment name number hash = cond blank Blank (cond comment Comment (cond name Word (cond number Number (cond hash Literal Sign))))

-- where the second byte tells the form, the piece has two bytes
by_second : (blank slash line name number hash : Bool) (len : Form → ℕ) → (slash && line ≡ true → 2 ≤ len Comment)
    → len (chain blank (slash && line) name number hash) ≤ 1 → chain blank (slash && false) name number hash ≡ chain blank (slash && line) name number hash
by_second true slash line name number hash len f h = refl
by_second false true true name number hash len f h = absurd (omega (arith, f refl))
by_second false true false name number hash len f h = refl
by_second false false line name number hash len f h = refl

comment_has_two : (a c : ℕ) (bs : List ℕ) → (eqb a 47 && eqb c 47) ≡ true → 2 ≤ line_length (a ∷ c ∷ bs)
comment_has_two a c bs e = rw e (omega arith)

pub form_keeps : (text : List ℕ) (k : ℕ) → 0 < k → length_of (form_of text) text ≤ k → form_of (take k text) ≡ form_of text
unfolding form_of
form_keeps text zero p h = absurd (omega arith)
form_keeps [] (suc k) p h = refl
form_keeps (a ∷ []) (suc zero) p h = refl
form_keeps (a ∷ []) (suc (suc k)) p h = refl
form_keeps (a ∷ c ∷ bs) (suc (suc k)) p h = refl
form_keeps (a ∷ c ∷ bs) (suc zero) p h =
    by_second (is_blank a) (eqb a 47) (eqb c 47) (is_name_start a) (is_decimal a) (is_hash a) (λ form. length_of form (a ∷ c ∷ bs)) (comment_has_two a c bs) h

pub own_shows : ShowsPieces own
own_shows = record { forms = form_keeps; lengths = length_keeps }
