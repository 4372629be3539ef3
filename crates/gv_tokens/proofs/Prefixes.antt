-- Parts of Go's pieces keep prefixes.
use Rattle.std.proofs.Common.{◌≡◌, ◌≤◌, ◌+◌, ◌-◌, ◌&&◌, ℕ, zero, suc, Bool, true, false, cond, eqb, List, [], ◌∷◌, take, drop, slice_index, refl, ap, ◌∙◌, arith}
use Rattle.std.proofs.lemmas.List.{drop-take}
use Rattle.std.specs.List.{prefix_len}
use Rattle.gv_text.proofs.Prefixes.{KeepsPrefixes, nothing_keeps, run_keeps, optional_keeps, after_two_keeps, in_turn_keeps}
use Rattle.gv_text.specs.Lengths.{nothing, optional, after_two, in_turn}
use Rattle.gv_tokens.specs.declared.bytes.Class.{Class}
use Rattle.gv_tokens.specs.declared.numbers.Base.{Base}
use Rattle.gv_tokens.specs.declared.numbers.Base.TheVariants.{Binary, Octal, Decimal, Hex}
use Rattle.gv_tokens.specs.declared.bytes.Class.TheVariants.{InText, InRawText, DecimalDigits}
use Rattle.gv_tokens.specs.Bytes.{belongs, is_quote, is_backquote, run}
use Rattle.gv_tokens.specs.Comments.{block_rest, block_length}
use Rattle.gv_tokens.specs.Numbers.{base_of, prefix_length, digits_of, parts_length, number_length, fraction_length, exponent_length, imaginary_length, sign_length, is_point, is_exponent_letter, is_plus_or_minus, is_i}
use Rattle.gv_tokens.specs.Texts.{text_length, raw_length}

pub class_keeps : (class : Class) → KeepsPrefixes (run class)
class_keeps class = run_keeps (belongs class)

-- ---- comments and texts

block_step : (b : Bool) (m n k : ℕ) → cond b 2 (1 + n) ≤ suc (suc k) → (n ≤ suc k → m ≡ n) → cond b 2 (1 + m) ≡ cond b 2 (1 + n)
block_step true m n k h f = refl
block_step false m n k h f = ap (λ i. 1 + i) (f (omega arith))

lone_star : (a b : Bool) (n : ℕ) → cond (a && b) 2 (1 + n) ≤ 1 → cond (a && false) 2 1 ≡ cond (a && b) 2 (1 + n)
lone_star true true n h = absurd (omega arith)
lone_star true false n h = omega arith
lone_star false b n h = omega arith

pub block_rest_keeps : KeepsPrefixes block_rest
unfolding block_rest
block_rest_keeps [] zero h = refl
block_rest_keeps [] (suc k) h = refl
block_rest_keeps (b ∷ bs) zero h = omega arith
block_rest_keeps (b ∷ bs) (suc zero) h = lone_star (eqb b 42) (eqb (slice_index bs 0) 47) (block_rest bs) h
block_rest_keeps (b ∷ []) (suc (suc k)) h = refl
block_rest_keeps (b ∷ c ∷ bs) (suc (suc k)) h =
    block_step (eqb b 42 && eqb c 47) (block_rest (c ∷ take k bs)) (block_rest (c ∷ bs)) k h (λ l. block_rest_keeps (c ∷ bs) (suc k) l)

pub block_keeps : KeepsPrefixes block_length
block_keeps = after_two_keeps 47 42 block_rest block_rest_keeps

pub text_keeps : KeepsPrefixes text_length
text_keeps =
    optional_keeps is_quote (in_turn (run InText) (optional is_quote nothing))
    (in_turn_keeps (run InText) (optional is_quote nothing) (class_keeps InText) (optional_keeps is_quote nothing nothing_keeps))

pub raw_keeps : KeepsPrefixes raw_length
raw_keeps =
    optional_keeps is_backquote (in_turn (run InRawText) (optional is_backquote nothing))
    (in_turn_keeps (run InRawText) (optional is_backquote nothing) (class_keeps InRawText) (optional_keeps is_backquote nothing nothing_keeps))

-- ---- numbers

exponent_keeps : KeepsPrefixes exponent_length
exponent_keeps =
    optional_keeps is_exponent_letter (in_turn sign_length (run DecimalDigits))
    (in_turn_keeps sign_length (run DecimalDigits) (optional_keeps is_plus_or_minus nothing nothing_keeps) (class_keeps DecimalDigits))

parts_keeps : (class : Class) → KeepsPrefixes (parts_length class)
parts_keeps class =
    in_turn_keeps (run class) (in_turn (fraction_length class) (in_turn exponent_length imaginary_length)) (class_keeps class)
    (in_turn_keeps (fraction_length class) (in_turn exponent_length imaginary_length) (optional_keeps is_point (run class) (class_keeps class))
    (in_turn_keeps exponent_length imaginary_length exponent_keeps (optional_keeps is_i nothing nothing_keeps)))

abbrev number_by : Base → List ℕ → ℕ
number_by base text = prefix_length base + parts_length (digits_of base) (drop (prefix_length base) text)

number_by_keeps : (base : Base) → KeepsPrefixes (number_by base)
number_by_keeps base text k h =
    let n = prefix_length base in
    let part = parts_length (digits_of base) in
    let split : k ≡ n + (k - n) = omega arith in
    let dropped : drop n (take k text) ≡ take (k - n) (drop n text) = ap (λ i. drop n (take i text)) split ∙ drop-take n (k - n) text in
    ap (λ i. n + i) (ap part dropped ∙ parts_keeps (digits_of base) (drop n text) (k - n) (omega arith))

-- the base shows in the prefixes that hold its own
lone_byte : (b : Bool) → cond b Decimal Decimal ≡ Decimal
lone_byte true = refl
lone_byte false = refl

no_prefix : (base : Base) → prefix_length base ≤ 1 → Decimal ≡ base
no_prefix Binary h = absurd (omega arith)
no_prefix Octal h = absurd (omega arith)
no_prefix Decimal h = refl
no_prefix Hex h = absurd (omega arith)

base_keeps : (text : List ℕ) (k : ℕ) → prefix_length (base_of text) ≤ k → base_of (take k text) ≡ base_of text
base_keeps [] zero h = refl
base_keeps [] (suc k) h = refl
base_keeps (b ∷ bs) zero h = no_prefix (base_of (b ∷ bs)) (omega arith)
base_keeps (b ∷ bs) (suc zero) h = lone_byte (eqb b 48) ∙ no_prefix (base_of (b ∷ bs)) h
base_keeps (b ∷ []) (suc (suc k)) h = refl
base_keeps (b ∷ c ∷ bs) (suc (suc k)) h = refl

pub number_keeps : KeepsPrefixes number_length
unfolding number_length
number_keeps text k h =
    ap (λ base. number_by base (take k text)) (base_keeps text k (omega arith)) ∙ number_by_keeps (base_of text) text k h
