-- The word that a text begins with shows in a prefix that holds it.
use Rattle.std.proofs.Common.{◌≡◌, ◌≤◌, ◌<◌, ◌+◌, ◌⊎◌, inl, inr, ℕ, zero, suc, Bool, true, false, cond, ltb, lt-ltb, Option, Some, None, List, [], ◌∷◌, length, take, refl, ap, ◌∙◌, arith}
use Rattle.std.proofs.lemmas.List.{take-take, length-take}
use Rattle.std.specs.Option.{option_map_or}
use Rattle.std.specs.Str.{continuation_len}
use borrow.Author.Tests.{ltb-true, ltb-false}
use Rattle.gv_text.proofs.Prefixes.{one_step}
use Rattle.gv_text.proofs.Longest.{which}
use Rattle.gv_tokens.specs.Chars.{first_char, char_of, begins_with, is_letter, is_letter_or_digit}
use Rattle.gv_tokens.specs.Words.{letters_run, word_length}
use Rattle.gv_tokens.proofs.Letters.{letters_skip}

same_test : (x y n : ℕ) → (x < n → y < n) → (n ≤ x → n ≤ y) → ltb x n ≡ ltb y n
same_test x y n f g = grind arith

-- the first character shows in a prefix that holds it
pub char_shows : (b : ℕ) (bs : List ℕ) (k : ℕ) → continuation_len b ≤ k → first_char (b ∷ take k bs) ≡ first_char (b ∷ bs)
unfolding first_char
char_shows b bs k h =
    let n = continuation_len b in
    let next : 1 + n ≡ suc n = omega arith in
    let taken : take (1 + n) (b ∷ take k bs) ≡ take (1 + n) (b ∷ bs) = rw next (ap (λ t. b ∷ t) (take-take n k bs h)) in
    let test : ltb (length (b ∷ take k bs)) (1 + n) ≡ ltb (length (b ∷ bs)) (1 + n) =
    same_test (length (b ∷ take k bs)) (length (b ∷ bs)) (1 + n) (λ l. omega (arith, length-take k bs)) (λ l. omega (arith, length-take k bs)) in
    ap (λ t. cond t None (char_of (take (1 + n) (b ∷ take k bs)))) test
    ∙ ap (λ t. cond (ltb (length (b ∷ bs)) (1 + n)) None (char_of t)) taken

-- and no other character shows in a shorter one
pub char_hides : (b : ℕ) (bs : List ℕ) (k : ℕ) → k < continuation_len b → first_char (b ∷ take k bs) ≡ None
unfolding first_char
char_hides b bs k h =
    let short : length (b ∷ take k bs) < 1 + continuation_len b = omega (arith, length-take k bs) in
    rw (lt-ltb (length (b ∷ take k bs)) (1 + continuation_len b) short) refl

-- a character that is there has its bytes
pub char_fits : (b : ℕ) (bs : List ℕ) (test : ℕ → Bool) → begins_with test (b ∷ bs) ≡ true → continuation_len b ≤ length bs
unfolding first_char
char_fits b bs test e = go (ltb (length (b ∷ bs)) (1 + continuation_len b)) refl e
  where
    go : (t : Bool) → ltb (length (b ∷ bs)) (1 + continuation_len b) ≡ t
        → option_map_or test (cond t None (char_of (take (1 + continuation_len b) (b ∷ bs)))) false ≡ true → continuation_len b ≤ length bs
    go true q e = absurd cc
    go false q e = omega (arith, ltb-false (length (b ∷ bs)) (1 + continuation_len b) q)

letter_is_either : (o : Option ℕ) → option_map_or is_letter o false ≡ true → option_map_or is_letter_or_digit o false ≡ true
letter_is_either None e = e
letter_is_either (Some c) e = rw e refl

-- nothing is read where the prefix is too short for the character
none_read : (t : Bool) (n l k : ℕ) → (t ≡ true → n ≤ l) → k < n → cond t (1 + l) 0 ≤ suc k → 0 ≡ cond t (1 + l) 0
none_read true n l k f h w = absurd (omega (arith, f refl))
none_read false n l k f h w = refl

run_passes : (b : ℕ) (bs : List ℕ) → begins_with is_letter_or_digit (b ∷ bs) ≡ true → continuation_len b ≤ letters_run (continuation_len b) bs
run_passes b bs e = omega (arith, letters_skip (continuation_len b) bs (char_fits b bs is_letter_or_digit e))

run_begins : (b : ℕ) (bs : List ℕ) → begins_with is_letter_or_digit (b ∷ bs) ≡ true → letters_run 0 (b ∷ bs) ≡ 1 + letters_run (continuation_len b) bs
unfolding letters_run
run_begins b bs e = rw e refl

abbrev run_after : Bool → ℕ → ℕ
run_after t l = cond t (1 + l) 0

pub letters_keeps : (left : ℕ) (text : List ℕ) (k : ℕ) → letters_run left text ≤ k → letters_run left (take k text) ≡ letters_run left text
unfolding letters_run
letters_keeps left [] zero h = refl
letters_keeps left [] (suc k) h = refl
letters_keeps left (b ∷ bs) zero h = omega arith
letters_keeps (suc left) (b ∷ bs) (suc k) h = ap (λ i. 1 + i) (letters_keeps left bs k (omega arith))
letters_keeps zero (b ∷ bs) (suc k) h =
    let n = continuation_len b in
    let seen = begins_with is_letter_or_digit (b ∷ bs) in
    elim (which k n) [
      | inl short ↦
          ap (λ o. run_after (option_map_or is_letter_or_digit o false) (letters_run n (take k bs))) (char_hides b bs k short)
          ∙ none_read seen n (letters_run n bs) k (run_passes b bs) short h
      | inr fits ↦
          ap (λ o. run_after (option_map_or is_letter_or_digit o false) (letters_run n (take k bs))) (char_shows b bs k fits)
          ∙ one_step seen (letters_run n (take k bs)) (letters_run n bs) k h (letters_keeps n bs k)
    ]

word_step : (t : Bool) (m l k : ℕ) → cond t l 0 ≤ k → (l ≤ k → m ≡ l) → cond t m 0 ≡ cond t l 0
word_step true m l k h f = f h
word_step false m l k h f = refl

no_word : (t : Bool) (n l k : ℕ) → (t ≡ true → 1 + n ≤ l) → k < n → cond t l 0 ≤ suc k → 0 ≡ cond t l 0
no_word true n l k f h w = absurd (omega (arith, f refl))
no_word false n l k f h w = refl

word_passes : (b : ℕ) (bs : List ℕ) → begins_with is_letter (b ∷ bs) ≡ true → 1 + continuation_len b ≤ letters_run 0 (b ∷ bs)
word_passes b bs e =
    let either = letter_is_either (first_char (b ∷ bs)) e in
    omega (arith, run_begins b bs either, run_passes b bs either)

pub word_keeps : (text : List ℕ) (k : ℕ) → word_length text ≤ k → word_length (take k text) ≡ word_length text
unfolding word_length first_char
word_keeps [] zero h = refl
word_keeps [] (suc k) h = refl
word_keeps (b ∷ bs) zero h = omega arith
word_keeps (b ∷ bs) (suc k) h =
    let n = continuation_len b in
    let seen = begins_with is_letter (b ∷ bs) in
    elim (which k n) [
      | inl short ↦
          ap (λ o. cond (option_map_or is_letter o false) (letters_run 0 (b ∷ take k bs)) 0) (char_hides b bs k short)
          ∙ no_word seen n (letters_run 0 (b ∷ bs)) k (word_passes b bs) short h
      | inr fits ↦
          ap (λ o. cond (option_map_or is_letter o false) (letters_run 0 (b ∷ take k bs)) 0) (char_shows b bs k fits)
          ∙ word_step seen (letters_run 0 (b ∷ take k bs)) (letters_run 0 (b ∷ bs)) (suc k) h (letters_keeps 0 (b ∷ bs) (suc k))
    ]
