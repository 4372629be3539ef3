-- Spans of a text within a span.
use Rattle.std.proofs.Common.{◌≡◌, ℕ, suc, zero, ◌≤◌, ◌+◌, ◌-◌, List, [], ◌∷◌, length, take, drop, refl, sym, ap, ◌∙◌, arith}
use Rattle.std.proofs.lemmas.List.{drop-take, length-take, length-drop}
use Rattle.std.specs.Prelude.{slice_range}
use Rattle.gv_gotypes.specs.Literals.{unquoted}

drop_none : (n : ℕ) → drop {A = ℕ} n [] ≡ []
drop_none zero = refl
drop_none (suc n) = refl

drop_on : (xs : List ℕ) (a b : ℕ) → drop b (drop a xs) ≡ drop (a + b) xs
drop_on xs zero b = ap (λ n. drop n xs) (omega arith)
drop_on [] (suc a) b = drop_none b ∙ sym (drop_none (suc a + b))
drop_on (x ∷ xs) (suc a) b = drop_on xs a b ∙ ap (λ n. drop n (x ∷ xs)) (more a b)
  where
    more : (a b : ℕ) → suc (a + b) ≡ suc a + b
    more a b = omega arith

take_on : (a b : ℕ) (xs : List ℕ) → a ≤ b → take a (take b xs) ≡ take a xs
take_on zero b xs h = refl
take_on (suc a) zero xs h = absurd (omega (arith, h))
take_on (suc a) (suc b) [] h = refl
take_on (suc a) (suc b) (x ∷ xs) h = ap (λ ys. x ∷ ys) (take_on a b xs (omega (arith, h)))

take_over : (n : ℕ) (xs : List ℕ) → length xs ≤ n → take n xs ≡ xs
take_over zero [] h = refl
take_over zero (x ∷ xs) h = absurd (omega (arith, h))
take_over (suc n) [] h = refl
take_over (suc n) (x ∷ xs) h = ap (λ ys. x ∷ ys) (take_over n xs (omega (arith, h)))

-- a span past a text ends with it
pub range_over : (text : List ℕ) (s e : ℕ) → length text ≤ e → slice_range text s e ≡ slice_range text s (length text)
range_over text s e h =
    take_over (e - s) (drop s text) (omega (arith, length-drop s text, h))
    ∙ sym (take_over (length text - s) (drop s text) (omega (arith, length-drop s text)))

-- a span with two bytes
pub two_within : (text : List ℕ) (s e : ℕ) → 2 ≤ length (slice_range text s e) → s + 2 ≤ e
two_within text s e h = omega (arith, length-take (e - s) (drop s text), h)

pub range_length : (text : List ℕ) (s e : ℕ) → s ≤ e → e ≤ length text → length (slice_range text s e) ≡ e - s
range_length text s e h within = length-take (e - s) (drop s text) ∙ omega (arith, length-drop s text, h, within)

-- what stands between quotes, by its span
pub within_quotes : (text : List ℕ) (s e : ℕ) → s + 2 ≤ e → e ≤ length text → unquoted (slice_range text s e) ≡ slice_range text (s + 1) (e - 1)
within_quotes text s e h within =
    ap (λ n. take (n - 2) (drop 1 (slice_range text s e))) (range_length text s e (omega (arith, h)) within)
    ∙ ap (λ n. take (e - s - 2) (drop 1 (take n (drop s text)))) (split s e h)
    ∙ ap (λ ys. take (e - s - 2) ys) (drop-take 1 (e - s - 1) (drop s text) ∙ ap (λ ys. take (e - s - 1) ys) (drop_on text s 1))
    ∙ take_on (e - s - 2) (e - s - 1) (drop (s + 1) text) (omega (arith, h))
    ∙ ap (λ n. take n (drop (s + 1) text)) (same s e h)
  where
    split : (s e : ℕ) → s + 2 ≤ e → e - s ≡ 1 + (e - s - 1)
    split s e h = omega (arith, h)

    same : (s e : ℕ) → s + 2 ≤ e → e - s - 2 ≡ e - 1 - (s + 1)
    same s e h = omega (arith, h)

-- a span without its first bytes
pub range_drop : (text : List ℕ) (s e k : ℕ) → k ≤ e - s → drop k (slice_range text s e) ≡ slice_range text (s + k) e
range_drop text s e k h =
    ap (λ n. drop k (take n (drop s text))) (split s e k h)
    ∙ drop-take k (e - s - k) (drop s text)
    ∙ ap (λ ys. take (e - s - k) ys) (drop_on text s k)
    ∙ ap (λ n. take n (drop (s + k) text)) (same s e k)
  where
    split : (s e k : ℕ) → k ≤ e - s → e - s ≡ k + (e - s - k)
    split s e k h = omega (arith, h)

    same : (s e k : ℕ) → e - s - k ≡ e - (s + k)
    same s e k = omega arith
