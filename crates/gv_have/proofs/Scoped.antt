-- Terms, sides and rows as they were read: what is made of them, and where there is none.
use Rattle.std.proofs.Common.{◌≡◌, ℕ, zero, suc, ◌+◌, ◌<◌, List, [], ◌∷◌, ◌++◌, map, length, take, get_or, Bool, true, false, ◌&&◌, cond, Option, Some, None, option_map, refl, sym, ap, ◌∙◌, subst, arith}
use Rattle.std.specs.Prelude.{IsSome}
use Rattle.std.specs.Option.{is_some}
use Rattle.std.proofs.Math.IntN.{ℤ}
use Rattle.std.proofs.lemmas.List.{map-append, take_more}
use Rattle.std.proofs.lemmas.List.Elements.{All-append}
use Rattle.gv_terms.specs.declared.sort.Sort.{Sort}
use Rattle.gv_terms.specs.declared.sort.Sort.TheVariants as sort
use Rattle.gv_terms.specs.declared.operator.Operator.TheVariants as op
use Rattle.gv_terms.specs.declared.term.Term.{Term}
use Rattle.gv_terms.specs.declared.var.Var.{Var}
use Rattle.gv_terms.specs.declared.tree.RawTerm.{RawTerm}
use Rattle.gv_terms.specs.declared.tree.RawTerm.TheVariants as raw
use Rattle.gv_terms.specs.declared.tree.TermTree.{TermTree}
use Rattle.gv_terms.specs.Resolving.{resolved, all_there}
use Rattle.gv_terms.specs.Ranges.{numbers_are_words}
use Rattle.gv_terms.specs.Sorts.{sort_given, sort_eq, takes}
use Rattle.gv_terms.specs.Values.{is_sort}
use Rattle.gv_terms.specs.Store.{tree_at, trees_at, AreIn, Grows}
use Rattle.gv_terms.specs.Trees.{sort_of, all_sorts, with_sorts}
use Rattle.gv_terms.proofs.NodeSorts.{sort_apply}
use Rattle.gv_axioms.specs.Filling.{with_some, as_formula}
use Rattle.gv_axioms.specs.Truth.{AreTerms}
use Rattle.gv_certs.specs.declared.cert.Factored.{Factored}
use Rattle.gv_certs.specs.Trees.{equation}
use Rattle.gv_certs.proofs.Equality.{sort_eq_decides}
use Rattle.gv_known.proofs.Nodes.{tree_kept}
use Rattle.gv_side.proofs.Lists.{trees_same}
use Rattle.gv_sums.specs.declared.factored.FactoredTerm.{FactoredTerm}
use Rattle.gv_sums.specs.Reading.{row_at, formulas_in}
use Rattle.gv_have.specs.Scoping.{formula_of, terms_of, sides_of, if_equated, rows_of}

-- ---- formulas

pub formula_there : (vars : List Var) (t : RawTerm) (u : TermTree) (s : Sort) → resolved vars t ≡ Some u → sort_of u ≡ Some s → s ≡ sort.Bool → formula_of vars t ≡ Some u
formula_there vars t u s is sorted e =
    ap (λ o. with_some o as_formula) is ∙ ap (λ o. cond (is_sort sort.Bool o) (Some u) None) (sorted ∙ ap (λ r. Some r) e)

no_truth : (s : Sort) → (s ≡ sort.Bool → ⊥) → sort_eq s sort.Bool ≡ false
no_truth s h = by_test (sort_eq s sort.Bool) refl
  where
    by_test : (b : Bool) → sort_eq s sort.Bool ≡ b → b ≡ false
    by_test true e = absurd (h ((sort_eq_decides s sort.Bool).0 e))
    by_test false e = refl

pub no_formula : (vars : List Var) (t : RawTerm) (u : TermTree) (s : Sort) → resolved vars t ≡ Some u → sort_of u ≡ Some s → (s ≡ sort.Bool → ⊥) → formula_of vars t ≡ None
no_formula vars t u s is sorted ne =
    ap (λ o. with_some o as_formula) is ∙ ap (λ o. cond (is_sort sort.Bool o) (Some u) None) sorted ∙ ap (λ b. cond b (Some u) None) (no_truth s ne)

pub none_of_none : (vars : List Var) (t : RawTerm) → resolved vars t ≡ None → formula_of vars t ≡ None
none_of_none vars t e = ap (λ o. with_some o as_formula) e

-- ---- terms, one after another

pub all_some : (us : List TermTree) → all_there (map (λ u. Some u) us) ≡ Some us
all_some [] = refl
all_some (u ∷ us) = ap (λ o. option_map (λ ts. u ∷ ts) o) (all_some us)

abbrev pub no_raw : RawTerm
no_raw = raw.Variable []

pub none_there : (vars : List Var) (ts : List RawTerm) (i : ℕ) (t : RawTerm) → i < length ts → t ≡ get_or ts i t → resolved vars t ≡ None → terms_of vars ts ≡ None
none_there vars [] i t lt is e = absurd (omega arith)
none_there vars (u ∷ ts) zero t lt is e = ap (λ o. all_there (o ∷ map (resolved vars) ts)) (ap (resolved vars) (sym is) ∙ e)
none_there vars (u ∷ ts) (suc i) t lt is e = by_first (resolved vars u) (none_there vars ts i t (omega arith) is e)
  where
    by_first : (o : Option TermTree) → all_there (map (resolved vars) ts) ≡ None → all_there (o ∷ map (resolved vars) ts) ≡ None
    by_first None h = refl
    by_first (Some v) h = ap (λ o. option_map (λ vs. v ∷ vs) o) h

-- one term more, with its sort and its numbers
pub terms_more : (old new : List TermTree) (made more : List Term) (t : Term) → AreIn old made → Grows old new → AreTerms (trees_at old made) → AreTerms (tree_at new t.id ∷ []) → more ≡ made ++ t ∷ []
    → AreTerms (trees_at new more)
terms_more old new made more t within grows terms here e =
    subst AreTerms (sym (ap (trees_at new) e ∙ map-append (λ q. tree_at new q.id) made (t ∷ []) ∙ ap (λ ts. ts ++ tree_at new t.id ∷ []) (trees_same old new made within grows)))
    (All-append (λ u. IsSome (sort_of u) × (numbers_are_words u ≡ true)) (trees_at old made) (tree_at new t.id ∷ []) terms here)

-- ---- two sides

equation_sort : (a b : TermTree) (s r : Sort) → sort_of a ≡ Some s → sort_of b ≡ Some r → sort_of (equation a b) ≡ takes (s ∷ s ∷ []) sort.Bool (s ∷ r ∷ [])
equation_sort a b s r e f =
    sort_apply op.Equal (a ∷ b ∷ []) ∙ ap (λ o. with_sorts (all_sorts (o ∷ sort_of b ∷ [])) (sort_given op.Equal)) e
    ∙ ap (λ o. with_sorts (all_sorts (Some s ∷ o ∷ [])) (sort_given op.Equal)) f

module _ (vars : List Var) (a b : RawTerm) (x y : TermTree) (s r : Sort) (first : resolved vars a ≡ Some x) (second : resolved vars b ≡ Some y) (e : sort_of x ≡ Some s) (f : sort_of y ≡ Some r) where
  together : sides_of vars a b ≡ if_equated (x, y)
  together = ap (λ o. with_some (with_some o (λ t. option_map (λ u. (t, u)) (resolved vars b))) if_equated) first ∙ ap (λ o. with_some (option_map (λ u. (x, u)) o) if_equated) second

  abbrev chosen : Bool → Option (TermTree × TermTree)
  chosen c = option_map (λ t. (x, y)) (cond c (Some (equation x y)) None)

  abbrev tested : Bool → Bool
  tested c = is_some (cond c (Some sort.Bool) None)

  by_sorts : sides_of vars a b ≡ chosen (tested (sort_eq s s && (sort_eq s r && true)))
  by_sorts = together ∙ ap (λ o. chosen (is_some o)) (equation_sort x y s r e f)

  same_sort : (q : Sort) → sort_eq q q ≡ true
  same_sort q = (sort_eq_decides q q).1 refl

  pub sides_there : s ≡ r → sides_of vars a b ≡ Some (x, y)
  sides_there same =
      by_sorts ∙ ap (λ c. chosen (tested (c && (sort_eq s r && true)))) (same_sort s) ∙ ap (λ c. chosen (tested (true && (c && true)))) (ap (λ q. sort_eq s q) (sym same) ∙ same_sort s)

  other_sort : (s ≡ r → ⊥) → sort_eq s r ≡ false
  other_sort ne = by_test (sort_eq s r) refl
    where
      by_test : (c : Bool) → sort_eq s r ≡ c → c ≡ false
      by_test true g = absurd (ne ((sort_eq_decides s r).0 g))
      by_test false g = refl

  pub no_sides : (s ≡ r → ⊥) → sides_of vars a b ≡ None
  no_sides ne = by_sorts ∙ ap (λ c. chosen (tested (c && (sort_eq s r && true)))) (same_sort s) ∙ ap (λ c. chosen (tested (true && (c && true)))) (other_sort ne)

pub no_first : (vars : List Var) (a b : RawTerm) → resolved vars a ≡ None → sides_of vars a b ≡ None
no_first vars a b e = ap (λ o. with_some (with_some o (λ t. option_map (λ u. (t, u)) (resolved vars b))) if_equated) e

pub no_second : (vars : List Var) (a b : RawTerm) (x : TermTree) → resolved vars a ≡ Some x → resolved vars b ≡ None → sides_of vars a b ≡ None
no_second vars a b x e f =
    ap (λ o. with_some (with_some o (λ t. option_map (λ u. (t, u)) (resolved vars b))) if_equated) e ∙ ap (λ o. with_some (option_map (λ u. (x, u)) o) if_equated) f

-- ---- rows

abbrev pub none : Term
none = record { id = 0 }

pub rows_kept : (old new : List TermTree) (made : List FactoredTerm) → AreIn old (formulas_in made) → Grows old new → map (row_at new) made ≡ map (row_at old) made
rows_kept old new [] within grows = refl
rows_kept old new (r ∷ made) within grows =
    ap (λ t. (r.factor, t) ∷ map (row_at new) made) (tree_kept old new r.formula (within 0 none (omega arith)) grows)
    ∙ ap (λ rs. row_at old r ∷ rs) (rows_kept old new made (λ k d lt. within (suc k) d (omega arith)) grows)

one_row_more : (vars : List Var) (rs : List Factored) (xs : List (ℤ × TermTree)) (r : Factored) (f : TermTree) → rows_of vars rs ≡ Some xs → formula_of vars r.formula ≡ Some f
    → rows_of vars (rs ++ r ∷ []) ≡ Some (xs ++ (r.factor, f) ∷ [])
one_row_more vars [] xs r f e is =
    let none : [] ≡ xs = cc in
    ap (λ o. with_some o (λ g. Some ((r.factor, g) ∷ []))) is ∙ ap (λ ys. Some (ys ++ (r.factor, f) ∷ [])) none
one_row_more vars (q ∷ rs) xs r f e is = by_both (formula_of vars q.formula) (rows_of vars rs) refl (λ ys h. one_row_more vars rs ys r f h is) e
  where
    by_both : (o : Option TermTree) (p : Option (List (ℤ × TermTree))) → rows_of vars rs ≡ p
        → ((ys : List (ℤ × TermTree)) → rows_of vars rs ≡ Some ys → rows_of vars (rs ++ r ∷ []) ≡ Some (ys ++ (r.factor, f) ∷ []))
        → with_some o (λ g. option_map (λ gs. (q.factor, g) ∷ gs) p) ≡ Some xs
        → with_some o (λ g. option_map (λ gs. (q.factor, g) ∷ gs) (rows_of vars (rs ++ r ∷ []))) ≡ Some (xs ++ (r.factor, f) ∷ [])
    by_both None p h rest g = absurd cc
    by_both (Some t) None h rest g = absurd cc
    by_both (Some t) (Some ys) h rest g =
        let same : (q.factor, t) ∷ ys ≡ xs = cc in
        ap (λ o. option_map (λ gs. (q.factor, t) ∷ gs) o) (rest ys h) ∙ ap (λ zs. Some (zs ++ (r.factor, f) ∷ [])) same

pub row_more : (vars : List Var) (rs : List Factored) (i : ℕ) (r : Factored) (old new : List TermTree) (made more : List FactoredTerm) (t : Term) → i < length rs → r ≡ get_or rs i r
    → AreIn old (formulas_in made) → Grows old new → rows_of vars (take i rs) ≡ Some (map (row_at old) made) → formula_of vars r.formula ≡ Some (tree_at new t.id)
    → more ≡ made ++ (record { factor = r.factor; formula = t }) ∷ [] → rows_of vars (take (i + 1) rs) ≡ Some (map (row_at new) more)
row_more vars rs i r old new made more t lt is within grows stand here e =
    ap (rows_of vars) (take_more rs i r lt ∙ ap (λ q. take i rs ++ q ∷ []) (sym is))
    ∙ one_row_more vars (take i rs) (map (row_at old) made) r (tree_at new t.id) stand here
    ∙ ap (λ xs. Some (xs ++ (r.factor, tree_at new t.id) ∷ [])) (sym (rows_kept old new made within grows))
    ∙ ap (λ xs. Some xs) (sym (ap (map (row_at new)) e ∙ map-append (row_at new) made ((record { factor = r.factor; formula = t }) ∷ [])))

pub no_row : (vars : List Var) (rs : List Factored) (i : ℕ) (r : Factored) → i < length rs → r ≡ get_or rs i r → formula_of vars r.formula ≡ None → rows_of vars rs ≡ None
no_row vars [] i r lt is e = absurd (omega arith)
no_row vars (q ∷ rs) zero r lt is e = ap (λ o. with_some o (λ f. option_map (λ fs. (q.factor, f) ∷ fs) (rows_of vars rs))) (ap (λ p. formula_of vars p.formula) (sym is) ∙ e)
no_row vars (q ∷ rs) (suc i) r lt is e = by_first (formula_of vars q.formula) (no_row vars rs i r (omega arith) is e)
  where
    by_first : (o : Option TermTree) → rows_of vars rs ≡ None → with_some o (λ f. option_map (λ fs. (q.factor, f) ∷ fs) (rows_of vars rs)) ≡ None
    by_first None h = refl
    by_first (Some f) h = ap (λ o. option_map (λ fs. (q.factor, f) ∷ fs) o) h

pub formulas_more : (made more : List FactoredTerm) (r : FactoredTerm) → more ≡ made ++ r ∷ [] → formulas_in more ≡ formulas_in made ++ r.formula ∷ []
formulas_more made more r e = ap formulas_in e ∙ map-append (λ q. q.formula) made (r ∷ [])

-- sides keep their trees
pub sides_kept : (vars : List Var) (a b : RawTerm) (old new : List TermTree) (x y : Term) → sides_of vars a b ≡ Some (tree_at old x.id, tree_at old y.id) → x.id < length old → y.id < length old → Grows old new
    → sides_of vars a b ≡ Some (tree_at new x.id, tree_at new y.id)
sides_kept vars a b old new x y e lx ly grows =
    e ∙ ap (λ t. Some (t, tree_at old y.id)) (sym (tree_kept old new x lx grows)) ∙ ap (λ t. Some (tree_at new x.id, t)) (sym (tree_kept old new y ly grows))
