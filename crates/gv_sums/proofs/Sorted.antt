-- The formulas that a sum asks for have a sort.
use Rattle.std.proofs.Common.{◌≡◌, List, [], ◌∷◌, Bool, true, false, ◌&&◌, cond, Option, Some, None, refl, sym, ap, ◌∙◌, subst, rules}
use Rattle.std.specs.Prelude.{IsSome}
use Rattle.std.specs.Cmp.Lexicographic.{pointwise}
use Rattle.std.proofs.lemmas.Bool.{and_parts}
use Rattle.gv_terms.specs.declared.sort.Sort.{Sort}
use Rattle.gv_terms.specs.declared.sort.Sort.TheVariants as sort
use Rattle.gv_terms.specs.declared.operator.Operator.{Operator}
use Rattle.gv_terms.specs.declared.operator.Operator.TheVariants as op
use Rattle.gv_terms.specs.declared.tree.TermTree.{TermTree}
use Rattle.gv_terms.specs.Sorts.{sort_given, sort_eq, takes}
use Rattle.gv_terms.specs.Trees.{sort_of, all_sorts, with_sorts}
use Rattle.gv_terms.proofs.NodeSorts.{sort_apply}
use Rattle.gv_certs.specs.Trees.{over_two, parts_under}
use Rattle.gv_certs.proofs.Equality.{sort_eq_decides}
use Rattle.gv_certs.proofs.Known.{is_over}

abbrev words : List Sort
words = sort.Word ∷ sort.Word ∷ []

-- two parts that a sum takes are words
two_words : (o p : Option Sort) (s : Sort) → with_sorts (all_sorts (o ∷ p ∷ [])) (takes words sort.Word) ≡ Some s → (o ≡ Some sort.Word) × (p ≡ Some sort.Word)
two_words None p s e = absurd cc
two_words (Some r) None s e = absurd cc
two_words (Some r) (Some q) s e = by_test (pointwise sort_eq words (r ∷ q ∷ [])) refl e
  where
    by_test : (b : Bool) → pointwise sort_eq words (r ∷ q ∷ []) ≡ b → cond b (Some sort.Word) None ≡ Some s → (Some r ≡ Some sort.Word) × (Some q ≡ Some sort.Word)
    by_test false f g = absurd cc
    by_test true f g =
        let first = and_parts (sort_eq sort.Word r) (sort_eq sort.Word q && true) f in
        let second = and_parts (sort_eq sort.Word q) true first.1 in
        (ap (λ x. Some x) (sym ((sort_eq_decides sort.Word r).0 first.0)), ap (λ x. Some x) (sym ((sort_eq_decides sort.Word q).0 second.0)))

-- what is over two words has a sort
over_words : (o : Operator) (r : Sort) (a b : TermTree) → sort_given o ≡ takes words r → sort_of a ≡ Some sort.Word → sort_of b ≡ Some sort.Word → IsSome (sort_of (over_two o a b))
over_words o r a b is e f =
    let given : sort_of (over_two o a b) ≡ Some r =
    sort_apply o (a ∷ b ∷ []) ∙ ap (λ g. with_sorts (all_sorts (sort_of a ∷ sort_of b ∷ [])) g) is
    ∙ ap (λ x. with_sorts (all_sorts (x ∷ sort_of b ∷ [])) (takes words r)) e
    ∙ ap (λ x. with_sorts (all_sorts (Some sort.Word ∷ x ∷ [])) (takes words r)) f in
    subst (λ s. IsSome s) (sym given) (search rules)

parts_words : (o : Operator) (t : TermTree) (p : TermTree × TermTree) (s : Sort) → sort_given o ≡ takes words sort.Word → parts_under o t ≡ Some p → sort_of t ≡ Some s
    → (sort_of p.0 ≡ Some sort.Word) × (sort_of p.1 ≡ Some sort.Word)
parts_words o t p s is e sorted =
    two_words (sort_of p.0) (sort_of p.1) s
    (sym (ap (λ g. with_sorts (all_sorts (sort_of p.0 ∷ sort_of p.1 ∷ [])) g) is) ∙ sym (sort_apply o (p.0 ∷ p.1 ∷ [])) ∙ sym (ap sort_of (is_over o t p e)) ∙ sorted)

pub fits_sorted : (t : TermTree) (p : TermTree × TermTree) (s : Sort) → parts_under op.Plus t ≡ Some p → sort_of t ≡ Some s → IsSome (sort_of (over_two op.Fits p.0 p.1))
fits_sorted t p s e sorted = let both = parts_words op.Plus t p s refl e sorted in over_words op.Fits sort.Bool p.0 p.1 refl both.0 both.1

pub at_most_sorted : (t : TermTree) (p : TermTree × TermTree) (s : Sort) → parts_under op.Minus t ≡ Some p → sort_of t ≡ Some s → IsSome (sort_of (over_two op.AtMost p.1 p.0))
at_most_sorted t p s e sorted = let both = parts_words op.Minus t p s refl e sorted in over_words op.AtMost sort.Bool p.1 p.0 refl both.1 both.0
