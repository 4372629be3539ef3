-- The pieces that are words are exactly the identifiers.
use Rattle.std.proofs.Common.{◌≡◌, ◌≤◌, ◌<◌, ◌+◌, ◌&&◌, ◌||◌, ◌⊎◌, inl, inr, ℕ, zero, suc, Bool, true, false, cond, eqb, List, [], ◌∷◌, length, slice_index, refl, ◌∙◌, ap, arith}
use Rattle.std.proofs.lemmas.Bool.Decides.{nat_tests}
use Rattle.gv_text.specs.Bytes.{is_blank}
use Rattle.gv_text.specs.Cutting.{IsPiece}
use Rattle.gv_text.specs.Scanning.{piece}
use Rattle.gv_lex.specs.declared.form.Form.{Form}
use Rattle.gv_lex.specs.declared.form.Form.TheVariants.{Blank, Comment, Word}
use Rattle.gv_lex.specs.Bytes.{is_name_start, is_name_byte, is_dot}
use Rattle.gv_lex.specs.Forms.{form_of}
use Rattle.gv_lex.specs.Names.{name_rest, name_length, goes_on, GoesOnAfter, IsIdentifier}
use Rattle.gv_lex.specs.Reading.{own}

-- ---- a word is an identifier

on_and_more : (t : Bool) (m l : ℕ) → cond t (1 + m) 0 ≡ suc l → (t ≡ true) × (m ≡ l)
on_and_more true m l e = (refl, omega arith)
on_and_more false m l e = absurd (omega arith)

name_or_dot : (name dot next : Bool) → (name || (dot && next)) ≡ true → (name ≡ true) ⊎ ((name ≡ false) × (dot ≡ true) × (next ≡ true))
name_or_dot true dot next e = inl refl
name_or_dot false true next e = inr (refl, refl, e)
name_or_dot false false next e = absurd cc

not_both : (t : Bool) → t ≡ true → t ≡ false → ⊥
not_both t e f = cc

-- after a letter, a digit or `_`, or before one
rest_goes_on : (b : ℕ) (bs : List ℕ) → name_rest bs ≡ length bs → (is_name_byte b ≡ true) ⊎ (is_name_byte (slice_index bs 0) ≡ true)
    → (k : ℕ) → k < length bs → GoesOnAfter (b ∷ bs) k
unfolding name_rest
rest_goes_on b [] e q k l = absurd (omega arith)
rest_goes_on b (c ∷ cs) e q zero l =
    let on = on_and_more (goes_on c (slice_index cs 0)) (name_rest cs) (length cs) e in
    elim (name_or_dot (is_name_byte c) (is_dot c) (is_name_byte (slice_index cs 0)) on.0) [
      | inl name ↦ inl name
      | inr dot ↦ elim q [ inl before ↦ inr (dot.1, before, dot.2) | inr name ↦ absurd (not_both (is_name_byte c) name dot.0) ]
    ]
rest_goes_on b (c ∷ cs) e q (suc k) l =
    let on = on_and_more (goes_on c (slice_index cs 0)) (name_rest cs) (length cs) e in
    rest_goes_on c cs on.1
    (elim (name_or_dot (is_name_byte c) (is_dot c) (is_name_byte (slice_index cs 0)) on.0) [ inl name ↦ inl name | inr dot ↦ inr dot.2 ])
    k (omega arith)

start_is_name_byte : (b : ℕ) → is_name_start b ≡ true → is_name_byte b ≡ true
start_is_name_byte b e = grind (arith, nat_tests)

identifier_from_length : (bytes : List ℕ) → 0 < length bytes → name_length bytes ≡ length bytes → IsIdentifier bytes
identifier_from_length [] l e = absurd (omega arith)
identifier_from_length (b ∷ bs) l e =
    let on = on_and_more (is_name_start b) (name_rest bs) (length bs) e in
    record { start = on.0; goes_on = λ k h. rest_goes_on b bs on.1 (inl (start_is_name_byte b on.0)) k (omega arith) }

pub word_is_identifier : (bytes : List ℕ) → IsPiece own (piece Word bytes) → IsIdentifier bytes
word_is_identifier bytes h = identifier_from_length bytes h.some h.whole

-- ---- an identifier is a word

either_goes_on : (name dot next : Bool) → (name ≡ true) ⊎ ((dot ≡ true) × (next ≡ true)) → (name || (dot && next)) ≡ true
either_goes_on true dot next h = refl
either_goes_on false dot next (inl e) = absurd cc
either_goes_on false dot next (inr h) = rw (h.0, h.1) refl

rest_is_whole : (b : ℕ) (bs : List ℕ) → ((k : ℕ) → k < length bs → GoesOnAfter (b ∷ bs) k) → name_rest bs ≡ length bs
unfolding name_rest
rest_is_whole b [] h = refl
rest_is_whole b (c ∷ cs) h =
    let on : goes_on c (slice_index cs 0) ≡ true =
    either_goes_on (is_name_byte c) (is_dot c) (is_name_byte (slice_index cs 0)) (elim (h 0 (omega arith)) [ inl name ↦ inl name | inr dot ↦ inr (dot.0, dot.2) ]) in
    let more : name_rest cs ≡ length cs = rest_is_whole c cs (λ k l. h (suc k) (omega arith)) in
    ap (λ t. cond t (1 + name_rest cs) 0) on ∙ omega arith

start_is_above : (b : ℕ) → is_name_start b ≡ true → 65 ≤ b
start_is_above b e = grind (arith, nat_tests)

not_blank : (b : ℕ) → 65 ≤ b → is_blank b ≡ false
not_blank b h = grind (arith, nat_tests)

not_slash : (b : ℕ) → 65 ≤ b → eqb b 47 ≡ false
not_slash b h = grind (arith, nat_tests)

word_form : (b : ℕ) (bs : List ℕ) → is_name_start b ≡ true → form_of (b ∷ bs) ≡ Word
unfolding form_of
word_form b bs e = chain (is_blank b) (eqb b 47) (eqb (slice_index bs 0) 47) (is_name_start b) _ (not_blank b (start_is_above b e)) (not_slash b (start_is_above b e)) e
  where
    chain : (blank slash line name : Bool) (other : Form) → blank ≡ false → slash ≡ false → name ≡ true
        → cond blank Blank (cond (slash && line) Comment (cond name Word other)) ≡ Word
    chain blank slash line name other e f g = rw (e, f, g) refl

no_start : (t : Bool) → t ≡ true → t ≡ false → ⊥
no_start t e f = cc

pub identifier_is_word : (bytes : List ℕ) → IsIdentifier bytes → IsPiece own (piece Word bytes)
identifier_is_word [] h = absurd (no_start (is_name_start 0) h.start refl)
identifier_is_word (b ∷ bs) h =
    record {
      form = word_form b bs h.start;
      some = omega arith;
      whole = ap (λ t. cond t (1 + name_rest bs) 0) h.start ∙ omega (arith, rest_is_whole b bs (λ k l. h.goes_on k (omega arith)));
    }
