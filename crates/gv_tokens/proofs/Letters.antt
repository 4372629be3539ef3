-- The letters and digits at the start of a text, a character at a time.
use Rattle.std.proofs.Common.{◌≡◌, ◌≤◌, ◌+◌, ℕ, zero, suc, true, Some, List, [], ◌∷◌, length, drop, slice_index, refl, ap, ◌∙◌, sym, arith}
use Rattle.std.proofs.lemmas.List.{get_or-drop, drop-drop, length-drop}
use Rattle.std.specs.Str.{continuation_len}
use Rattle.gv_tokens.specs.Chars.{first_char, is_letter_or_digit}
use Rattle.gv_tokens.specs.Words.{letters_run}

pub letters_skip : (left : ℕ) (bs : List ℕ) → left ≤ length bs → letters_run left bs ≡ left + letters_run 0 (drop left bs)
unfolding letters_run
letters_skip zero bs h = omega arith
letters_skip (suc left) [] h = absurd (omega arith)
letters_skip (suc left) (b ∷ bs) h = omega (arith, letters_skip left bs (omega arith))

at_start : (b : ℕ) (bs : List ℕ) (c : ℕ) → first_char (b ∷ bs) ≡ Some c → is_letter_or_digit c ≡ true
    → letters_run 0 (b ∷ bs) ≡ 1 + letters_run (continuation_len b) bs
unfolding letters_run
at_start b bs c e l = rw (e, l) refl

-- past one of them
pub letters_step : (bs : List ℕ) (c : ℕ) → first_char bs ≡ Some c → is_letter_or_digit c ≡ true → 1 + continuation_len (slice_index bs 0) ≤ length bs
    → letters_run 0 bs ≡ 1 + continuation_len (slice_index bs 0) + letters_run 0 (drop (1 + continuation_len (slice_index bs 0)) bs)
letters_step [] c e l h = absurd (omega arith)
letters_step (b ∷ bs) c e l h =
    let past : 1 + continuation_len b ≡ suc (continuation_len b) = omega arith in
    at_start b bs c e l ∙ ap (λ n. 1 + n) (letters_skip (continuation_len b) bs (omega arith)) ∙ rw past (omega arith)

-- the same within a text
pub letters_turn : (text : List ℕ) (at n c : ℕ) → n ≡ 1 + continuation_len (slice_index text at) → Some c ≡ first_char (drop at text) → is_letter_or_digit c ≡ true
    → 1 + continuation_len (slice_index (drop at text) 0) ≤ length (drop at text) → at ≤ length text
    → (at + n ≤ length text) × (at + n + letters_run 0 (drop (at + n) text) ≡ at + letters_run 0 (drop at text))
letters_turn text at n c e f l h w =
    let here : slice_index (drop at text) 0 ≡ slice_index text at = get_or-drop at text 0 0 ∙ ap (λ i. slice_index text i) (omega arith) in
    let same : n ≡ 1 + continuation_len (slice_index (drop at text) 0) = e ∙ ap (λ b. 1 + continuation_len b) (sym here) in
    let step = letters_step (drop at text) c (sym f) l h in
    let moved : letters_run 0 (drop at text) ≡ n + letters_run 0 (drop n (drop at text)) = rw same step in
    let rest : letters_run 0 (drop n (drop at text)) ≡ letters_run 0 (drop (at + n) text) = ap (letters_run 0) (drop-drop n at text) in
    (omega (arith, length-drop at text), omega arith)
