-- What numbered summands come to is what the summands do.
use Rattle.std.proofs.Common.{◌≡◌, ◌⊎◌, inl, inr, if◌then◌else◌, ◌==◌, ℕ, zero, suc, ◌+◌, ◌<◌, ◌≤◌, List, [], ◌∷◌, ◌++◌, map, length, take, get_or, Bool, false, None, refl, sym, ap, subst, ◌∙◌, arith}
use Rattle.std.proofs.Math.IntN.{ℤ, pos, ◌+ℤ◌, ◌-ℤ◌}
use Rattle.std.proofs.lemmas.Int.{ints}
use Rattle.std.proofs.lemmas.Bool.{cases_lt, cases_eq}
use Rattle.std.proofs.lemmas.List.{take_more}
use Rattle.std.proofs.lemmas.List.Elements.{All-nil, All-cons, All-append}
use Rattle.std.proofs.lemmas.List.Quantifiers.{all_pairs_push}
use Rattle.gv_terms.specs.declared.tree.TermTree.{TermTree}
use Rattle.gv_certs.specs.Sums.{to_coefficient, to_constant, coefficient_of, constant_of, items_from, Summands, Comparison, row_summands, one_if, row_of}
use Rattle.gv_linear.specs.declared.row.Row.{Row}
use Rattle.gv_linear.specs.Row.{coefficient}
use Rattle.gv_linear.proofs.RowLemmas.{coefficient_of_none}
use Rattle.gv_sums.specs.declared.summand.Summand.{Summand}
use Rattle.gv_sums.specs.declared.summand.Numbered.{Numbered}
use Rattle.gv_sums.specs.Reading.{sign_of, summands_at, numbered_at, coefficient_in, constant_in, AreItems, IsLike}

abbrev pub no_number : Numbered
no_number = record { negative = false; number = None; place = 0 }

-- ---- what the definitions say of them

abbrev make : Bool → List (ℕ × ℤ) → ℤ → Row
make same items constant = record { same = same; items = items; constant = constant }

pub coefficient_is : (st us : List TermTree) (u : ℕ) (ss : List Summand) → coefficient_in u (map (numbered_at st us) ss) ≡ coefficient_of us u (summands_at st ss)
coefficient_is st us u [] = refl
coefficient_is st us u (s ∷ ss) = ap (λ z. to_coefficient u (sign_of s.negative) (numbered_at st us s).place (numbered_at st us s).number +ℤ z) (coefficient_is st us u ss)

pub constant_is : (st us : List TermTree) (ss : List Summand) → constant_in (map (numbered_at st us) ss) ≡ constant_of (summands_at st ss)
constant_is st us [] = refl
constant_is st us (s ∷ ss) = ap (λ z. to_constant (sign_of s.negative) (numbered_at st us s).number +ℤ z) (constant_is st us ss)

-- among the items of all unknowns
pub coefficient_from : (us : List TermTree) (c u more : ℕ) (ss : Summands) → u ≤ c → c < u + more → coefficient c (items_from us u more ss) ≡ coefficient_of us c ss
coefficient_from us c u zero ss low high = absurd (omega arith)
coefficient_from us c u (suc more) ss low high =
    elim (cases_eq u c) [ inl here ↦ grind (arith, here) | inr other ↦ later other (coefficient_from us c (suc u) more ss (omega (arith, low, other)) (omega (arith, high))) ]
  where
    later : (u ≡ c → ⊥) → coefficient c (items_from us (suc u) more ss) ≡ coefficient_of us c ss → coefficient c (items_from us u (suc more) ss) ≡ coefficient_of us c ss
    later other rest = grind (arith, other, rest)

-- ---- one more

pub coefficient_append : (u : ℕ) (x y : List Numbered) → coefficient_in u (x ++ y) ≡ coefficient_in u x +ℤ coefficient_in u y
coefficient_append u [] y = omega (arith, ints)
coefficient_append u (n ∷ x) y = let rest = coefficient_append u x y in omega (arith, ints, rest)

pub constant_append : (x y : List Numbered) → constant_in (x ++ y) ≡ constant_in x +ℤ constant_in y
constant_append [] y = omega (arith, ints)
constant_append (n ∷ x) y = let rest = constant_append x y in omega (arith, ints, rest)

pub coefficient_more : (u : ℕ) (ns : List Numbered) (i : ℕ) → i < length ns
    → coefficient_in u (take (i + 1) ns) ≡ coefficient_in u (take i ns) +ℤ to_coefficient u (sign_of (get_or ns i no_number).negative) (get_or ns i no_number).place (get_or ns i no_number).number
coefficient_more u ns i lt =
    let both = coefficient_append u (take i ns) (get_or ns i no_number ∷ []) in
    ap (coefficient_in u) (take_more ns i no_number lt) ∙ omega (arith, ints, both)

pub constant_more : (ns : List Numbered) (i : ℕ) → i < length ns → constant_in (take (i + 1) ns) ≡ constant_in (take i ns) +ℤ to_constant (sign_of (get_or ns i no_number).negative) (get_or ns i no_number).number
constant_more ns i lt =
    let both = constant_append (take i ns) (get_or ns i no_number ∷ []) in
    ap constant_in (take_more ns i no_number lt) ∙ omega (arith, ints, both)

-- ---- items, one more

abbrev Items : Type 0
Items = List (ℕ × ℤ)

last_item : (c u : ℕ) (z : ℤ) (items : Items) → ((k : ℕ) (d : ℕ × ℤ) → k < length items → (get_or items k d).0 < u) → u ≡ c → coefficient c (items ++ (u, z) ∷ []) ≡ z
last_item c u z [] below e = grind (arith, e)
last_item c u z (item ∷ items) below e =
    let head : item.0 < u = below 0 item (omega arith) in
    let tail : coefficient c (items ++ (u, z) ∷ []) ≡ z = last_item c u z items (λ k d l. below (suc k) d (omega arith)) e in
    grind (arith, head, tail, e)

other_item : (c u : ℕ) (z : ℤ) (items : Items) → (u ≡ c → ⊥) → coefficient c (items ++ (u, z) ∷ []) ≡ coefficient c items
other_item c u z [] other = grind (arith, other)
other_item c u z (item ∷ items) other = ap (λ y. if item.0 == c then item.1 else y) (other_item c u z items other)

pub no_items : (n : ℕ) (ns : List Numbered) → ((c : ℕ) → 0 ≤ c → c < n → coefficient_in c ns ≡ pos 0) → AreItems n ns []
no_items n ns none = record {
  ascending = λ i j d l m. absurd (omega (arith, m));
  below = λ k d l. absurd (omega (arith, l));
  coefficients = λ c l. sym (none c (omega arith) l);
}

-- the next unknown that the summands have
pub next_item : (u next : ℕ) (ns : List Numbered) (items more : List (ℕ × ℤ)) (z : ℤ) → AreItems u ns items → z ≡ coefficient_in u ns → u + 1 ≤ next
    → ((c : ℕ) → u + 1 ≤ c → c < next → coefficient_in c ns ≡ pos 0) → more ≡ items ++ (u, z) ∷ [] → AreItems next ns more
next_item u next ns items more z stand is low none e =
    subst (AreItems next ns) (sym e) (record {
      ascending = all_pairs_push (λ (i j : ℕ × ℤ). i.0 < j.0) items (u, z) stand.ascending stand.below;
      below = All-append (λ (i : ℕ × ℤ). i.0 < next) items ((u, z) ∷ []) (λ k d l. let here = stand.below k d l in omega (arith, here, low))
          (All-cons (λ (i : ℕ × ℤ). i.0 < next) (u, z) [] (omega (arith, low)) (All-nil (λ (i : ℕ × ℤ). i.0 < next)));
      coefficients = λ c l. elim (cases_eq u c) [ inl here ↦ last_item c u z items stand.below here ∙ is ∙ ap (λ k. coefficient_in k ns) here | inr other ↦ other_item c u z items other ∙ around c l other (cases_lt c u) ];
    })
  where
    around : (c : ℕ) → c < next → (u ≡ c → ⊥) → ((c < u) ⊎ (u ≤ c)) → coefficient c items ≡ coefficient_in c ns
    around c l other (inl before) = stand.coefficients c before
    around c l other (inr behind) =
        coefficient_of_none c items (λ k d m f. let here = stand.below k d m in omega (arith, here, behind, f)) ∙ sym (none c (omega (arith, behind, other)) l)

-- the parts of a row
pub whole_row : (st sums us : List TermTree) (c : Comparison) (same : Bool) (ss : List Summand) (ns : List Numbered) (count : ℕ) (items : List (ℕ × ℤ)) (constant : ℤ)
    → same ≡ c.same → summands_at st ss ≡ row_summands sums c → ns ≡ map (numbered_at st us) ss → count ≡ length us → AreItems count ns items → constant ≡ constant_in ns -ℤ one_if c.strict
    → IsLike count (make same items constant) (row_of sums us c)
whole_row st sums us c same ss ns count items constant e told numbered counted is sum = record {
  same = e;
  constant = sum ∙ ap (λ xs. constant_in xs -ℤ one_if c.strict) numbered ∙ ap (λ z. z -ℤ one_if c.strict) (constant_is st us ss ∙ ap constant_of told);
  order = record { ascending = is.ascending; below = is.below };
  coefficients = λ k l. is.coefficients k l ∙ ap (coefficient_in k) numbered ∙ coefficient_is st us k ss ∙ ap (coefficient_of us k) told
      ∙ sym (coefficient_from us k 0 (length us) (row_summands sums c) (omega arith) (omega (arith, l, counted)));
}
