-- The axioms of words as bytes.
use Rattle.std.proofs.Common.{◌≡◌, ℕ, zero, suc, ◌-◌, ◌/◌, ◌^◌, ◌<◌, ◌≤◌, List, [], ◌∷◌, ◌++◌, Bool, true, false, cond, length, take, drop, get_or, nat_eq, nat_lt, refl, ap, sym, ◌∙◌, arith, eqb-true, ltb-false, length-append, length-drop}
use Rattle.std.specs.List.{list_all}
use Rattle.std.proofs.Math.Nat.{pow-suc}
use Rattle.std.proofs.lemmas.Bool.{and_parts, le-ltb}
use Rattle.std.proofs.lemmas.List.{take_at, take_all, get_or-append_right, get_or-drop}
use Rattle.gv_terms.specs.declared.value.Value.{Value}
use Rattle.gv_terms.specs.declared.value.Value.TheVariants as val
use Rattle.gv_terms.specs.Values.{word_of, bytes_of}
use Rattle.gv_terms.specs.Meaning.{length_of, item_at, all_zero}
use Rattle.gv_words.specs.Words as words
use Rattle.gv_words.specs.Words.{low_bytes, number_of, le64, un64, put64}
use Rattle.gv_axioms.specs.Table as table
use Rattle.gv_axioms.proofs.Worth.{Holds}
use Rattle.gv_axioms.proofs.Values.{is_word, is_bytes, below, equal, yes, at_most}

low_length : (n a : ℕ) → length (low_bytes n a) ≡ n
low_length zero a = refl
low_length (suc n) a = ap suc (low_length n (a / 256))

-- a number is that of its low bytes, where there are enough
low_number : (n a : ℕ) → a < 256 ^ n → number_of (low_bytes n a) ≡ a
low_number zero a h = omega (arith, h)
low_number (suc n) a h =
    let rest : number_of (low_bytes n (a / 256)) ≡ a / 256 = low_number n (a / 256) (omega (arith, h, pow-suc 256 n)) in
    omega (arith, rest)

le64_length : (a : ℕ) → length (le64 a) ≡ 8
unfolding le64
le64_length a = low_length 8 a

back_again : (a : ℕ) → a < words.words → un64 (le64 a) ≡ a
unfolding le64 un64
back_again a h = ap number_of (take_all 8 (low_bytes 8 a) (omega (arith, low_length 8 a))) ∙ low_number 8 a h

replaced : (x : List ℕ) (a : ℕ) → 8 ≤ length x → put64 x a ≡ le64 a ++ drop 8 x
replaced x a h = ap (λ t. cond t x (le64 a ++ drop 8 x)) (le-ltb (length x) 8 h)

read_back : (x : List ℕ) (a : ℕ) → 8 ≤ length x → a < words.words → un64 (put64 x a) ≡ a
unfolding le64 un64
read_back x a h f =
    ap (λ l. number_of (take 8 l)) (replaced x a h) ∙ ap number_of (take_at (low_bytes 8 a) (drop 8 x) 8 (low_length 8 a)) ∙ low_number 8 a f

put_length : (x : List ℕ) (a : ℕ) → length (put64 x a) ≡ length x
put_length x a = pick (nat_lt (length x) 8) refl
  where
    pick : (t : Bool) → nat_lt (length x) 8 ≡ t → length (cond t x (le64 a ++ drop 8 x)) ≡ length x
    pick true e = refl
    pick false e = omega (arith, length-append (le64 a) (drop 8 x), le64_length a, length-drop 8 x, ltb-false (length x) 8 e)

put_behind : (x : List ℕ) (a i : ℕ) → 8 ≤ i → get_or (put64 x a) i 0 ≡ get_or x i 0
put_behind x a i h = pick (nat_lt (length x) 8)
  where
    pick : (t : Bool) → get_or (cond t x (le64 a ++ drop 8 x)) i 0 ≡ get_or x i 0
    pick true = refl
    pick false =
        get_or-append_right (le64 a) (drop 8 x) 8 i 0 (le64_length a) h ∙ get_or-drop 8 x (i - 8) 0 ∙ ap (λ n. get_or x n 0) (omega (arith, h))

number_zero : (n : ℕ) (x : List ℕ) → list_all (λ b. nat_eq b 0) x ≡ true → number_of (take n x) ≡ 0
number_zero zero x e = refl
number_zero (suc n) [] e = refl
number_zero (suc n) (b ∷ x) e =
    let parts = and_parts (nat_eq b 0) (list_all (λ c. nat_eq c 0) x) e in
    omega (arith, eqb-true b 0 parts.0, number_zero n x parts.1)

un64_zero : (x : List ℕ) → list_all (λ b. nat_eq b 0) x ≡ true → un64 x ≡ 0
unfolding un64
un64_zero x e = number_zero 8 x e

pub holds_44 : Holds table.axiom_44
holds_44 v in_range is met = equal _ _ (ap (λ n. val.Word n) (le64_length (word_of (v.value 0))))

pub holds_45 : Holds table.axiom_45
holds_45 v in_range is met = equal _ (v.value 0) (ap (λ n. val.Word n) (back_again (word_of (v.value 0)) (below (v.value 0) (in_range 0))) ∙ sym (is_word (v.value 0) is.0))

pub holds_46 : Holds table.axiom_46
holds_46 v in_range is met =
    let long : 8 ≤ length (bytes_of (v.value 0)) = at_most 8 _ (ap (λ x. operate_length x) (sym (is_bytes (v.value 0) is.0)) ∙ met.0 tt) in
    equal _ (v.value 1) (ap (λ n. val.Word n) (read_back (bytes_of (v.value 0)) (word_of (v.value 1)) long (below (v.value 1) (in_range 1))) ∙ sym (is_word (v.value 1) is.1.0))
  where
    operate_length : Value → Value
    operate_length x = val.Bool (Rattle.std.specs.Prelude.nat_le 8 (word_of (length_of x)))

pub holds_47 : Holds table.axiom_47
holds_47 v in_range is met =
    equal _ _ (ap (λ n. val.Word n) (put_length (bytes_of (v.value 0)) (word_of (v.value 1))) ∙ ap length_of (sym (is_bytes (v.value 0) is.0)))

pub holds_48 : Holds table.axiom_48
holds_48 v in_range is met =
    let i = word_of (v.value 2) in
    equal _ _ (ap (λ n. val.Word n) (put_behind (bytes_of (v.value 0)) (word_of (v.value 1)) i (at_most 8 i (met.0 tt))) ∙ ap (λ x. item_at x i) (sym (is_bytes (v.value 0) is.0)))

pub holds_49 : Holds table.axiom_49
holds_49 v in_range is met =
    equal _ _ (ap (λ n. val.Word n) (un64_zero (bytes_of (v.value 0)) (yes _ (ap all_zero (sym (is_bytes (v.value 0) is.0)) ∙ met.0 tt))))
