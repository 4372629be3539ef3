-- Sums of few summands stay within 128 bits.
use Rattle.std.proofs.Common.{◌≡◌, ◌⊎◌, inl, inr, ℕ, zero, suc, ◌+◌, ◌*◌, ◌<◌, ◌≤◌, ◌^◌, List, [], ◌∷◌, ◌++◌, map, length, take, Bool, true, false, ◌&&◌, cond, Option, Some, None, refl, sym, ap, ◌∙◌, subst, arith}
use Rattle.std.specs.Prelude.{nat_eq, nat_lt, int_le, int_lt, ◌≤ℤ◌, ◌<ℤ◌}
use Rattle.std.specs.List.{All, list_all}
use Rattle.std.proofs.Math.IntN.{ℤ, pos, neg_ℤ, ◌-ℤ◌, ◌*ℤ◌}
use Rattle.std.proofs.lemmas.Int.{ints}
use Rattle.std.proofs.lemmas.Bool.{and_parts}
use Rattle.gv_words.specs.Words.{words}
use Rattle.gv_terms.specs.declared.operator.Operator.TheVariants as op
use Rattle.gv_terms.specs.declared.tree.Head.{Head}
use Rattle.gv_terms.specs.declared.tree.Head.TheVariants as head
use Rattle.gv_terms.specs.declared.tree.TermTree.{TermTree}
use Rattle.gv_terms.specs.declared.tree.TermTree.TheVariants as tree
use Rattle.gv_terms.specs.Ranges.{numbers_are_words, is_word_if_number}
use Rattle.gv_terms.specs.Store.{tree_at, AreIn}
use Rattle.gv_terms.specs.Trees.{rooted, root_of, branches_of}
use Rattle.gv_terms.proofs.Numbers.{numbers_apply}
use Rattle.gv_certs.specs.Sums.{Summands, summands, taken_away, number_at, number_in, place_in, to_constant, to_coefficient, constant_of, coefficient_of, items_from, items_of, Comparison, row_summands, one_if, row_constant, row_of, is_narrow, is_narrow_row, is_narrow_sum}
use Rattle.gv_certs.specs.Proving.{sides, unknowns, matrix, are_narrow_sums}
use Rattle.gv_certs.proofs.Folding.{rooted_again}
use Rattle.gv_sums.specs.declared.summand.Summand.{Summand}
use Rattle.gv_sums.specs.declared.summand.Numbered.{Numbered}
use Rattle.gv_sums.specs.Reading.{sign_of, summands_at, terms_in, numbered_at, coefficient_in, constant_in, AreUnits, IsShort, AreShort, AreWords}
use Rattle.gv_sums.proofs.Finding.{none}

-- ---- literals are words

by_head : (h : Head) (bs : List TermTree) (n : ℕ) → number_at h ≡ Some n → numbers_are_words (rooted h bs) ≡ true → n < 2 ^ 64
by_head (head.Variable m s) bs n e w = absurd cc
by_head (head.Apply (op.Number k)) bs n e w =
    let same : k ≡ n = cc in
    let both = and_parts (is_word_if_number (op.Number k)) (list_all (λ b. b) (map numbers_are_words bs)) (sym (numbers_apply (op.Number k) bs) ∙ w) in
    let lt : nat_lt k words ≡ true = both.0 in
    subst (λ m. m < 2 ^ 64) same (grind (arith, lt))
by_head (head.Apply _) bs n e w = absurd cc

pub literal_below : (t : TermTree) (n : ℕ) → numbers_are_words t ≡ true → number_in t ≡ Some n → n < 2 ^ 64
literal_below t n w e = by_head (root_of t) (branches_of t) n e (ap numbers_are_words (rooted_again t) ∙ w)

unit : (b : Bool) → (sign_of b ≡ pos 1) ⊎ (sign_of b ≡ neg_ℤ (pos 1))
unit true = inr refl
unit false = inl refl

-- what a store has where it has no term
abbrev nought : TermTree
nought = tree.Apply (op.Number 0) []

pub are_units : (st : List TermTree) (ss : List Summand) → All (λ t. numbers_are_words t ≡ true) st → AreIn st (terms_in ss) → AreUnits (summands_at st ss)
are_units st [] words within = tt
are_units st (s ∷ ss) words within =
    (unit s.negative, (λ n e. literal_below (tree_at st s.term.id) n (words s.term.id nought (within 0 none (omega arith))) e), are_units st ss words (λ k d lt. within (suc k) d (omega arith)))

pub are_words : (st us : List TermTree) (ss : List Summand) → All (λ t. numbers_are_words t ≡ true) st → AreIn st (terms_in ss) → AreWords (map (numbered_at st us) ss)
are_words st us [] words within = tt
are_words st us (s ∷ ss) words within =
    ((λ n e. literal_below (tree_at st s.term.id) n (words s.term.id nought (within 0 none (omega arith))) e), are_words st us ss words (λ k d lt. within (suc k) d (omega arith)))

-- ---- bounds

-- not below -n, and not above n
pub record IsWithinBound (n : ℕ) (z : ℤ) : Type 0 where
  pub low : neg_ℤ (pos n) ≤ℤ z
  pub high : z ≤ℤ pos n

-- the greatest word
abbrev pub most : ℕ
most = 18446744073709551615

unit_bound : (s : ℤ) → (s ≡ pos 1) ⊎ (s ≡ neg_ℤ (pos 1)) → IsWithinBound 1 s
unit_bound s u = elim u [
  | inl e ↦ record { low = omega (arith, ints, e); high = omega (arith, ints, e) }
  | inr e ↦ record { low = omega (arith, ints, e); high = omega (arith, ints, e) }
]

coefficient_unit : (u : ℕ) (s : ℤ) (place : ℕ) (o : Option ℕ) → (s ≡ pos 1) ⊎ (s ≡ neg_ℤ (pos 1)) → IsWithinBound 1 (to_coefficient u s place o)
coefficient_unit u s place (Some n) is = record { low = omega (arith, ints); high = omega (arith, ints) }
coefficient_unit u s place None is = by_test (nat_eq place u)
  where
    by_test : (b : Bool) → IsWithinBound 1 (cond b s (pos 0))
    by_test true = unit_bound s is
    by_test false = record { low = omega (arith, ints); high = omega (arith, ints) }

times_one : (n : ℕ) → pos 1 *ℤ pos n ≡ pos n
times_one n = omega (arith, ints)

times_minus_one : (n : ℕ) → neg_ℤ (pos 1) *ℤ pos n ≡ neg_ℤ (pos n)
times_minus_one n = omega (arith, ints)

constant_unit : (s : ℤ) (o : Option ℕ) → (s ≡ pos 1) ⊎ (s ≡ neg_ℤ (pos 1)) → ((n : ℕ) → o ≡ Some n → n < 2 ^ 64) → IsWithinBound most (to_constant s o)
constant_unit s None is lt = record { low = omega (arith, ints); high = omega (arith, ints) }
constant_unit s (Some n) is lt =
    let small = lt n refl in
    elim is [
      | inl e ↦ (let same : s *ℤ pos n ≡ pos n = ap (λ z. z *ℤ pos n) e ∙ times_one n in record { low = omega (arith, ints, same, small); high = omega (arith, ints, same, small) })
      | inr e ↦ (let same : s *ℤ pos n ≡ neg_ℤ (pos n) = ap (λ z. z *ℤ pos n) e ∙ times_minus_one n in record { low = omega (arith, ints, same, small); high = omega (arith, ints, same, small) })
    ]

pub coefficient_bound : (us : List TermTree) (u : ℕ) (ss : Summands) → AreUnits ss → IsWithinBound (length ss) (coefficient_of us u ss)
coefficient_bound us u [] units = record { low = omega (arith, ints); high = omega (arith, ints) }
coefficient_bound us u (s ∷ ss) units =
    let here = coefficient_unit u s.0 (place_in us s.1) (number_in s.1) units.0 in
    let rest = coefficient_bound us u ss units.2 in
    record { low = omega (arith, ints, here.low, rest.low); high = omega (arith, ints, here.high, rest.high) }

pub constant_bound : (ss : Summands) → AreUnits ss → IsWithinBound (length ss * most) (constant_of ss)
constant_bound [] units = record { low = omega (arith, ints); high = omega (arith, ints) }
constant_bound (s ∷ ss) units =
    let here = constant_unit s.0 (number_in s.1) units.0 units.1 in
    let rest = constant_bound ss units.2 in
    record { low = omega (arith, ints, here.low, rest.low); high = omega (arith, ints, here.high, rest.high) }

pub coefficient_in_bound : (u : ℕ) (ns : List Numbered) → IsWithinBound (length ns) (coefficient_in u ns)
coefficient_in_bound u [] = record { low = omega (arith, ints); high = omega (arith, ints) }
coefficient_in_bound u (n ∷ ns) =
    let here = coefficient_unit u (sign_of n.negative) n.place n.number (unit n.negative) in
    let rest = coefficient_in_bound u ns in
    record { low = omega (arith, ints, here.low, rest.low); high = omega (arith, ints, here.high, rest.high) }

pub constant_in_bound : (ns : List Numbered) → AreWords ns → IsWithinBound (length ns * most) (constant_in ns)
constant_in_bound [] words = record { low = omega (arith, ints); high = omega (arith, ints) }
constant_in_bound (n ∷ ns) words =
    let here = constant_unit (sign_of n.negative) n.number (unit n.negative) words.0 in
    let rest = constant_in_bound ns words.1 in
    record { low = omega (arith, ints, here.low, rest.low); high = omega (arith, ints, here.high, rest.high) }

-- ---- narrow

both_true : (a b : Bool) → a ≡ true → b ≡ true → (a && b) ≡ true
both_true true b e f = f
both_true false b e f = absurd cc

pub narrow : (z : ℤ) → IsWithinBound (2 ^ 100) z → is_narrow z ≡ true
narrow z bound =
    let low = bound.low in
    let high = bound.high in
    both_true (int_le (neg_ℤ (pos (2 ^ 127))) z) (int_lt z (pos (2 ^ 127))) (at_least z (omega (arith, ints, low))) (at_most z (omega (arith, ints, high)))
  where
    at_least : (y : ℤ) → neg_ℤ (pos (2 ^ 127)) ≤ℤ y → int_le (neg_ℤ (pos (2 ^ 127))) y ≡ true
    at_least y h = grind (arith, ints)

    at_most : (y : ℤ) → y <ℤ pos (2 ^ 127) → int_lt y (pos (2 ^ 127)) ≡ true
    at_most y h = grind (arith, ints)

wider : (n m : ℕ) (z : ℤ) → n ≤ m → IsWithinBound n z → IsWithinBound m z
wider n m z le bound = let low = bound.low in let high = bound.high in record { low = omega (arith, ints, low, le); high = omega (arith, ints, high, le) }

items_narrow : (us : List TermTree) (u more : ℕ) (ss : Summands) → AreUnits ss → length ss < 2 ^ 33 → list_all (λ i. is_narrow i.1) (items_from us u more ss) ≡ true
items_narrow us u zero ss units few = refl
items_narrow us u (suc more) ss units few =
    both_true (is_narrow (coefficient_of us u ss)) (list_all (λ i. is_narrow i.1) (items_from us (suc u) more ss))
    (narrow (coefficient_of us u ss) (wider (length ss) (2 ^ 100) (coefficient_of us u ss) (omega (arith, few)) (coefficient_bound us u ss units))) (items_narrow us (suc u) more ss units few)

pub sum_narrow : (sums us : List TermTree) (t : TermTree) → IsShort (summands sums t) → is_narrow_sum sums us t ≡ true
sum_narrow sums us t short =
    let ss = summands sums t in
    let few = short.few in
    both_true (list_all (λ i. is_narrow i.1) (items_of us ss)) (is_narrow (constant_of ss))
    (items_narrow us 0 (length us) ss short.units (omega (arith, few)))
    (narrow (constant_of ss) (wider (length ss * most) (2 ^ 100) (constant_of ss) (omega (arith, few)) (constant_bound ss short.units)))

units_append : (x y : Summands) → AreUnits x → AreUnits y → AreUnits (x ++ y)
units_append [] y h g = g
units_append (s ∷ x) y h g = (h.0, h.1, units_append x y h.2 g)

units_taken : (x : Summands) → AreUnits x → AreUnits (taken_away x)
units_taken [] h = tt
units_taken (s ∷ x) h = (turned h.0, h.1, units_taken x h.2)
  where
    turned : (s.0 ≡ pos 1) ⊎ (s.0 ≡ neg_ℤ (pos 1)) → (neg_ℤ s.0 ≡ pos 1) ⊎ (neg_ℤ s.0 ≡ neg_ℤ (pos 1))
    turned u = elim u [ inl e ↦ inr (ap neg_ℤ e) | inr e ↦ inl (ap neg_ℤ e) ]

taken_length : (x : Summands) → length (taken_away x) ≡ length x
taken_length [] = refl
taken_length (s ∷ x) = ap suc (taken_length x)

length_of_both : (x y : Summands) → length (x ++ y) ≡ length x + length y
length_of_both [] y = omega arith
length_of_both (s ∷ x) y = let rest = length_of_both x y in omega (arith, rest)

pub row_narrow : (sums us : List TermTree) (c : Comparison) → IsShort (summands sums c.low) → IsShort (summands sums c.high) → is_narrow_row (row_of sums us c) ≡ true
row_narrow sums us c low high =
    let x = summands sums c.high in
    let y = summands sums c.low in
    let ss = row_summands sums c in
    let a = low.few in
    let b = high.few in
    let units = units_append x (taken_away y) high.units (units_taken y low.units) in
    let few : length ss < 2 ^ 33 = let same = length_of_both x (taken_away y) in let other = taken_length y in omega (arith, same, other, a, b) in
    both_true (list_all (λ i. is_narrow i.1) (items_of us ss)) (is_narrow (row_constant sums c))
    (items_narrow us 0 (length us) ss units few)
    (narrow (row_constant sums c) (less_one ss few (constant_bound ss units) c.strict))
  where
    less_one : (ss : Summands) → length ss < 2 ^ 33 → IsWithinBound (length ss * most) (constant_of ss) → (b : Bool) → IsWithinBound (2 ^ 100) (constant_of ss -ℤ one_if b)
    less_one ss few bound true = let low = bound.low in let high = bound.high in record { low = omega (arith, ints, low, few); high = omega (arith, ints, high, few) }
    less_one ss few bound false = let low = bound.low in let high = bound.high in record { low = omega (arith, ints, low, few); high = omega (arith, ints, high, few) }

-- ---- all of a certificate

short_first : (sums ts vs : List TermTree) → AreShort sums (ts ++ vs) → AreShort sums ts
short_first sums [] vs h = tt
short_first sums (t ∷ ts) vs h = (h.0, short_first sums ts vs h.1)

short_second : (sums ts vs : List TermTree) → AreShort sums (ts ++ vs) → AreShort sums vs
short_second sums [] vs h = h
short_second sums (t ∷ ts) vs h = short_second sums ts vs h.1

sums_narrow : (sums us ts : List TermTree) → AreShort sums ts → list_all (is_narrow_sum sums us) ts ≡ true
sums_narrow sums us [] h = refl
sums_narrow sums us (t ∷ ts) h = both_true (is_narrow_sum sums us t) (list_all (is_narrow_sum sums us) ts) (sum_narrow sums us t h.0) (sums_narrow sums us ts h.1)

rows_narrow : (sums us : List TermTree) (cs : List Comparison) → AreShort sums (sides cs) → list_all is_narrow_row (map (row_of sums us) cs) ≡ true
rows_narrow sums us [] h = refl
rows_narrow sums us (c ∷ cs) h =
    both_true (is_narrow_row (row_of sums us c)) (list_all is_narrow_row (map (row_of sums us) cs)) (row_narrow sums us c h.0 h.1.0) (rows_narrow sums us cs h.1.1)

pub all_narrow : (sums : List TermTree) (cs : List Comparison) → AreShort sums (sums ++ sides cs) → are_narrow_sums sums cs ≡ true
all_narrow sums cs h =
    both_true (list_all (is_narrow_sum sums (unknowns sums cs)) sums) (list_all is_narrow_row (matrix sums cs))
    (sums_narrow sums (unknowns sums cs) sums (short_first sums sums (sides cs) h)) (rows_narrow sums (unknowns sums cs) cs (short_second sums sums (sides cs) h))

-- ---- sums of the first ones

take_short : (i : ℕ) (ns : List Numbered) → length (take i ns) ≤ length ns
take_short zero ns = omega arith
take_short (suc i) [] = omega arith
take_short (suc i) (n ∷ ns) = let rest = take_short i ns in omega (arith, rest)

take_words : (i : ℕ) (ns : List Numbered) → AreWords ns → AreWords (take i ns)
take_words zero ns h = tt
take_words (suc i) [] h = tt
take_words (suc i) (n ∷ ns) h = (h.0, take_words i ns h.1)

pub coefficient_taken : (u i : ℕ) (ns : List Numbered) → length ns < 2 ^ 33 → IsWithinBound (2 ^ 33) (coefficient_in u (take i ns))
coefficient_taken u i ns few =
    let short = take_short i ns in
    wider (length (take i ns)) (2 ^ 33) (coefficient_in u (take i ns)) (omega (arith, few, short)) (coefficient_in_bound u (take i ns))

pub constant_taken : (i : ℕ) (ns : List Numbered) → length ns < 2 ^ 33 → AreWords ns → IsWithinBound (2 ^ 100) (constant_in (take i ns))
constant_taken i ns few words =
    let short = take_short i ns in
    wider (length (take i ns) * most) (2 ^ 100) (constant_in (take i ns)) (omega (arith, few, short)) (constant_in_bound (take i ns) (take_words i ns words))

summands_length : (st : List TermTree) (ss : List Summand) → length (summands_at st ss) ≡ length ss
summands_length st [] = refl
summands_length st (s ∷ ss) = ap suc (summands_length st ss)

pub short_summands : (st : List TermTree) (ss : List Summand) → All (λ t. numbers_are_words t ≡ true) st → AreIn st (terms_in ss) → length ss < 2 ^ 32 → IsShort (summands_at st ss)
short_summands st ss words within lt = let same = summands_length st ss in record { units = are_units st ss words within; few = omega (arith, same, lt) }

pub constant_small : (ns : List Numbered) → length ns < 2 ^ 33 → AreWords ns → IsWithinBound (2 ^ 100) (constant_in ns)
constant_small ns few words = wider (length ns * most) (2 ^ 100) (constant_in ns) (omega (arith, few)) (constant_in_bound ns words)
