-- An ASCII byte is its own character.
use Rattle.std.proofs.Common.{◌≡◌, ◌≤◌, ◌<◌, ◌+◌, ℕ, cond, ltb, lt-ltb, le-ltb, Some, None, List, [], ◌∷◌, length, take, get_or, slice_get, refl, sym, ap, subst, ◌∙◌, arith}
use Rattle.std.specs.Str.{IsUtf8, chars, chars_after, continuation_len, lead_bits}
use Rattle.std.proofs.lemmas.Str.{is_utf8-from_IsUtf8, IsUtf8-encode, encode_ascii}
use lib.Utf8.{low_scalar}
use Rattle.gv_tokens.specs.Chars.{first_char, char_of}

no_more : (b : ℕ) → b < 128 → continuation_len b ≡ 0
no_more b h = rw (lt-ltb b 128 h) refl

itself : (b : ℕ) → b < 128 → lead_bits b ≡ b
itself b h = rw (lt-ltb b 128 h) refl

alone : (b : ℕ) → b < 128 → char_of (b ∷ []) ≡ Some b
unfolding char_of chars
alone b h =
    let text : IsUtf8 (b ∷ []) = subst IsUtf8 (encode_ascii b h) (IsUtf8-encode b (low_scalar b (omega arith))) in
    let cs : chars_after (continuation_len b) (lead_bits b) [] ≡ b ∷ [] =
    ap (λ n. chars_after n (lead_bits b) []) (no_more b h) ∙ ap (λ c. c ∷ []) (itself b h) in
    ap (λ t. cond t (slice_get (chars_after (continuation_len b) (lead_bits b) []) 0) None) (is_utf8-from_IsUtf8 (b ∷ []) text)
    ∙ ap (λ t. slice_get t 0) cs

ascii_char : (b : ℕ) (bs : List ℕ) → b < 128 → first_char (b ∷ bs) ≡ Some b
unfolding first_char
ascii_char b bs h =
    ap (λ n. cond (ltb (length (b ∷ bs)) (1 + n)) None (char_of (take (1 + n) (b ∷ bs)))) (no_more b h)
    ∙ ap (λ t. cond t None (char_of (b ∷ []))) (le-ltb (length (b ∷ bs)) 1 (omega arith)) ∙ alone b h

pub ascii_start : (text : List ℕ) → 1 ≤ length text → get_or text 0 0 < 128 → Some (get_or text 0 0) ≡ first_char text
ascii_start [] l h = absurd (omega arith)
ascii_start (b ∷ bs) l h = sym (ascii_char b bs h)
