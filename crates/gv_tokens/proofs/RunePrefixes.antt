-- The rune literal that a text begins with shows in a prefix that holds it, and no other does.
use Rattle.std.proofs.Common.{◌≡◌, ◌≤◌, ◌<◌, ◌+◌, ◌&&◌, ◌⊎◌, inl, inr, ℕ, zero, suc, Bool, true, false, not, cond, ◌||◌, eqb, Option, is_some, List, [], ◌∷◌, length, take, drop, slice_index, refl, sym, ap, ◌∙◌, arith}
use Rattle.std.proofs.lemmas.List.{take-take, length-take, get_or-take, get_or-drop, drop_all}
use Rattle.std.specs.Char.{is_digit}
use Rattle.std.specs.List.{list_all}
use Rattle.std.specs.Str.{continuation_len}
use borrow.Author.Tests.{eqb-true}
use Rattle.gv_base.specs.Places.{is_newline}
use Rattle.gv_text.specs.Digits.{value_of}
use Rattle.gv_text.proofs.Prefixes.{KeepsPrefixes}
use Rattle.gv_text.proofs.Longest.{which}
use Rattle.gv_tokens.specs.declared.runes.Limit.{Limit}
use Rattle.gv_tokens.specs.declared.runes.Limit.TheVariants.{Byte, Scalar}
use Rattle.gv_tokens.specs.Chars.{first_char}
use Rattle.gv_tokens.specs.Runes.{is_allowed, code_length, one_more, is_simple_escape, escape_length, rune_value, rune_length}
use Rattle.gv_tokens.proofs.WordPrefixes.{char_shows, char_hides}

-- A part of fixed length, or nothing: a prefix has the same where it is long enough, and else nothing.
abbrev Shows : (List ℕ → ℕ) → List ℕ → ℕ → Type 0
Shows part text k = (part text ≤ k → part (take k text) ≡ part text) × (k < part text → part (take k text) ≡ 0)

-- the same of numbers alone: what the start has, and what the text has
abbrev IsFixed : ℕ → ℕ → ℕ → Type 0
IsFixed begun whole k = (whole ≤ k → begun ≡ whole) × (k < whole → begun ≡ 0)

fixed_same : (m n k : ℕ) → m ≡ n → n ≤ k → IsFixed m n k
fixed_same m n k e h = (λ l. e, λ l. absurd (omega arith))

fixed_none : (m n k : ℕ) → m ≡ 0 → (n ≡ 0) ⊎ (k < n) → IsFixed m n k
fixed_none m n k z (inl e) = (λ l. z ∙ sym e, λ l. z)
fixed_none m n k z (inr h) = (λ l. absurd (omega arith), λ l. z)

-- one of two, by a test of the bytes that both have
either_shows : (t : Bool) (m n m' n' k : ℕ) → IsFixed m n k → IsFixed m' n' k → IsFixed (cond t m m') (cond t n n') k
either_shows true m n m' n' k f g = f
either_shows false m n m' n' k f g = g

-- digits of a fixed number
coded : (t : Bool) (count k : ℕ) → k < count → (cond t count 0 ≡ 0) ⊎ (k < cond t count 0)
coded true count k h = inr h
coded false count k h = inl refl

at_most : (t : Bool) (count : ℕ) → cond t count 0 ≤ count
at_most true count = omega arith
at_most false count = omega arith

not_whole : (n count : ℕ) (t : Bool) → n < count → cond (eqb n count && t) count 0 ≡ 0
not_whole n count t h =
    elim (eqb n count) as (λ b. eqb n count ≡ b → cond (b && t) count 0 ≡ 0) [
      | true ↦ λ e. absurd (omega (arith, eqb-true n count e))
      | false ↦ λ e. refl
    ] refl

abbrev is_code : ℕ → ℕ → Limit → List ℕ → Bool
is_code radix count limit digits = eqb (length digits) count && (list_all (λ b. is_digit b radix) digits && is_allowed limit (value_of radix digits))

pub code_shows : (radix count : ℕ) (limit : Limit) (text : List ℕ) (k : ℕ) → Shows (code_length radix count limit) text k
unfolding code_length
code_shows radix count limit text k =
    let begun = code_length radix count limit (take k text) in
    let whole = code_length radix count limit text in
    elim (which k count) [
      | inl short ↦
          let none : begun ≡ 0 =
          not_whole (length (take count (take k text))) count _ (omega (arith, length-take count (take k text), length-take k text)) in
          fixed_none begun whole k none (coded (is_code radix count limit (take count text)) count k short)
      | inr fits ↦
          let same : begun ≡ whole = ap (λ digits. cond (is_code radix count limit digits) count 0) (take-take count k text fits) in
          fixed_same begun whole k same (omega (arith, at_most (is_code radix count limit (take count text)) count))
    ]

more_above : (n k : ℕ) → k < n → suc k < one_more n
more_above n k h =
    elim (eqb n 0) as (λ b. eqb n 0 ≡ b → suc k < cond b 0 (1 + n)) [
      | true ↦ λ e. absurd (omega (arith, eqb-true n 0 e))
      | false ↦ λ e. omega arith
    ] refl

more_most : (n : ℕ) → one_more n ≤ 1 + n
more_most n = elim (eqb n 0) as (λ b. cond b 0 (1 + n) ≤ 1 + n) [ true ↦ omega arith | false ↦ omega arith ]

more_shows : (m n k : ℕ) → IsFixed m n k → IsFixed (one_more m) (one_more n) (suc k)
more_shows m n k f =
    elim (which k n) [
      | inl short ↦ fixed_none (one_more m) (one_more n) (suc k) (ap one_more (f.1 short)) (inr (more_above n k short))
      | inr fits ↦ fixed_same (one_more m) (one_more n) (suc k) (ap one_more (f.0 fits)) (omega (arith, more_most n))
    ]

pub escape_shows : (text : List ℕ) (k : ℕ) → Shows escape_length text k
escape_shows [] zero = (λ l. refl, λ l. refl)
escape_shows [] (suc k) = (λ l. refl, λ l. refl)
escape_shows (b ∷ bs) zero = (λ l. omega arith, λ l. refl)
escape_shows (b ∷ bs) (suc k) =
    let octal = code_shows 8 3 Byte (b ∷ bs) (suc k) in
    let long = more_shows _ _ k (code_shows 16 8 Scalar bs k) in
    let short = more_shows _ _ k (code_shows 16 4 Scalar bs k) in
    let byte = more_shows _ _ k (code_shows 16 2 Byte bs k) in
    either_shows (is_simple_escape b) 1 1 _ _ (suc k) (fixed_same 1 1 (suc k) refl (omega arith))
    (either_shows (eqb b 120) _ _ _ _ (suc k) byte
    (either_shows (eqb b 117) _ _ _ _ (suc k) short
    (either_shows (eqb b 85) _ _ _ _ (suc k) long octal)))

abbrev of_char : Option ℕ → ℕ → ℕ
of_char found n = cond (is_some found) (1 + n) 0

char_part_shows : (b : ℕ) (bs : List ℕ) (k : ℕ)
    → IsFixed (of_char (first_char (b ∷ take k bs)) (continuation_len b)) (of_char (first_char (b ∷ bs)) (continuation_len b)) (suc k)
char_part_shows b bs k =
    let n = continuation_len b in
    let begun = of_char (first_char (b ∷ take k bs)) n in
    let whole = of_char (first_char (b ∷ bs)) n in
    elim (which k n) [
      | inl short ↦
          fixed_none begun whole (suc k) (ap (λ o. of_char o n) (char_hides b bs k short)) (coded (is_some (first_char (b ∷ bs))) (1 + n) (suc k) (omega arith))
      | inr fits ↦
          fixed_same begun whole (suc k) (ap (λ o. of_char o n) (char_shows b bs k fits)) (omega (arith, at_most (is_some (first_char (b ∷ bs))) (1 + n)))
    ]

pub value_shows : (text : List ℕ) (k : ℕ) → Shows rune_value text k
value_shows [] zero = (λ l. refl, λ l. refl)
value_shows [] (suc k) = (λ l. refl, λ l. refl)
value_shows (b ∷ bs) zero = (λ l. omega arith, λ l. refl)
value_shows (b ∷ bs) (suc k) =
    either_shows (eqb b 92) _ _ _ _ (suc k) (more_shows _ _ k (escape_shows bs k))
    (either_shows (eqb b 39 || is_newline b) 0 0 _ _ (suc k) (fixed_same 0 0 (suc k) refl (omega arith)) (char_part_shows b bs k))

-- ---- the literal

abbrev quoted : ℕ → Bool → ℕ
quoted n closed = cond (not (eqb n 0) && closed) (n + 2) 0

none_quoted : (s t : Bool) (n k : ℕ) → k ≤ n → cond (s && t) (n + 2) 0 ≤ suc k → 0 ≡ cond (s && t) (n + 2) 0
none_quoted true true n k h w = absurd (omega arith)
none_quoted true false n k h w = refl
none_quoted false t n k h w = refl

never_closed : (s : Bool) (n : ℕ) → cond (s && false) (n + 2) 0 ≡ 0
never_closed true n = refl
never_closed false n = refl

abbrev closes : List ℕ → ℕ → Bool
closes bs n = eqb (slice_index (drop n bs) 0) 39

closes_shows : (bs : List ℕ) (n k : ℕ) → n < k → closes (take k bs) n ≡ closes bs n
closes_shows bs n k h =
    ap (λ b. eqb b 39)
    (get_or-drop n (take k bs) 0 0 ∙ get_or-take k bs (n + 0) 0 (omega arith) ∙ sym (get_or-drop n bs 0 0))

closes_hides : (bs : List ℕ) (n k : ℕ) → k ≤ n → closes (take k bs) n ≡ false
closes_hides bs n k h = ap (λ t. eqb (slice_index t 0) 39) (drop_all n (take k bs) (omega (arith, length-take k bs)))

pub rune_keeps : KeepsPrefixes rune_length
unfolding rune_length
rune_keeps [] zero h = refl
rune_keeps [] (suc k) h = refl
rune_keeps (b ∷ bs) zero h = omega arith
rune_keeps (b ∷ bs) (suc k) h =
    let n = rune_value bs in
    let some = not (eqb n 0) in
    let shown = value_shows bs k in
    elim (which k n) [
      | inl short ↦
          ap (λ i. quoted i (closes (take k bs) i)) (shown.1 short) ∙ none_quoted some (closes bs n) n k (omega arith) h
      | inr fits ↦
          ap (λ i. quoted i (closes (take k bs) i)) (shown.0 fits) ∙ elim (which n k) [
            | inl within ↦ ap (quoted n) (closes_shows bs n k within)
            | inr ends ↦ ap (quoted n) (closes_hides bs n k ends) ∙ never_closed some n ∙ none_quoted some (closes bs n) n k ends h
          ]
    ]
