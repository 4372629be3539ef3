-- The steps of a pattern make the pattern's term, and the code's rows ask and give what the axioms do.
use Rattle.std.proofs.Common.{◌≡◌, ℕ, ◌-◌, List, [], ◌∷◌, ◌++◌, Option, Some, None, Bool, true, false, cond, length, take, drop, map, refl, ap, sym, ◌∙◌, arith, append_assoc, length-append}
use Rattle.std.specs.Prelude.{slice_get, slice_range}
use Rattle.std.proofs.lemmas.List.{append-nil, take_at, drop_at, take_all}
use Rattle.gv_terms.specs.declared.operator.Operator.{Operator}
use Rattle.gv_terms.specs.declared.tree.TermTree.{TermTree}
use Rattle.gv_terms.specs.declared.tree.TermTree.TheVariants as tree
use Rattle.gv_axioms.specs.declared.row.Row.{Row}
use Rattle.gv_axioms.specs.declared.row.Premise.{Premise as Asked}
use Rattle.gv_axioms.specs.declared.step.Step.{Step}
use Rattle.gv_axioms.specs.declared.step.Step.TheVariants as step
use Rattle.gv_axioms.specs.declared.generated.table.TheConstants.{KINDS, STEPS, PREMISES}
use Rattle.gv_axioms.specs.Schema.{Axiom, Pattern, Premise}
use Rattle.gv_axioms.specs.Schema.Pattern.{part, literal, copied, zero, over0, over1, over2, over3}
use Rattle.gv_axioms.specs.Filling.{with_some, sorted, filled, as_formula, formula, all_fit}
use Rattle.gv_axioms.specs.Instances.{numbered, is_asked, asked_first, asked, over_parts, instance_of}
use Rattle.gv_axioms.specs.Steps.{postfix, run, made_by, formula_by, asked_by, premise_read, premise_written, IsWritten}

with_same : {A B : Type 0} (o : Option A) (f g : A → Option B) → ((a : A) → f a ≡ g a) → with_some o f ≡ with_some o g
with_same None f g h = refl
with_same (Some a) f g h = h a

with_assoc : {A B C : Type 0} (o : Option A) (f : A → Option B) (g : B → Option C) → with_some (with_some o f) g ≡ with_some o (λ a. with_some (f a) g)
with_assoc None f g = refl
with_assoc (Some a) f g = refl

module _ (ts : List TermTree) where
  -- a term more on the stack
  pushed : (o : Option TermTree) (rest : List Step) (kept stack : List TermTree) → kept ≡ stack → with_some (with_some o (λ t. Some (kept ++ (t ∷ [])))) (run ts rest) ≡ with_some o (λ t. run ts rest (stack ++ (t ∷ [])))
  pushed None rest kept stack e = refl
  pushed (Some t) rest kept stack e = ap (λ st. run ts rest (st ++ (t ∷ []))) e

  all_kept : (stack : List TermTree) → take (length stack - 0) stack ≡ stack
  all_kept stack = take_all (length stack - 0) stack (omega arith)

  -- an operator over the last terms of the stack
  applied : (o : Operator) (n : ℕ) (us stack : List TermTree) (rest : List Step) → length us ≡ n → run ts (step.Apply o n ∷ rest) (stack ++ us) ≡ with_some (sorted (tree.Apply o us)) (λ t. run ts rest (stack ++ (t ∷ [])))
  applied o n us stack rest e =
      let at : length stack ≡ length (stack ++ us) - n = omega (arith, length-append stack us, e) in
      let last : drop (length (stack ++ us) - n) (stack ++ us) ≡ us = drop_at stack us (length (stack ++ us) - n) at in
      let first : take (length (stack ++ us) - n) (stack ++ us) ≡ stack = take_at stack us (length (stack ++ us) - n) at in
      ap (λ vs. with_some (with_some (sorted (tree.Apply o vs)) (λ t. Some (take (length (stack ++ us) - n) (stack ++ us) ++ (t ∷ [])))) (run ts rest)) last
      ∙ pushed (sorted (tree.Apply o us)) rest (take (length (stack ++ us) - n) (stack ++ us)) stack first

  pub run_postfix : (p : Pattern) (rest : List Step) (stack : List TermTree) → run ts (postfix p ++ rest) stack ≡ with_some (filled ts p) (λ t. run ts rest (stack ++ (t ∷ [])))
  run_postfix (part i) rest stack = pushed (filled ts (part i)) rest (take (length stack - 0) stack) stack (all_kept stack)
  run_postfix (literal i) rest stack = pushed (filled ts (literal i)) rest (take (length stack - 0) stack) stack (all_kept stack)
  run_postfix (copied i) rest stack = pushed (filled ts (copied i)) rest (take (length stack - 0) stack) stack (all_kept stack)
  run_postfix (zero i) rest stack = pushed (filled ts (zero i)) rest (take (length stack - 0) stack) stack (all_kept stack)
  run_postfix (over0 o) rest stack =
      ap (λ st. run ts (step.Apply o 0 ∷ rest) st) (sym (append-nil stack)) ∙ applied o 0 [] stack rest refl
  run_postfix (over1 o p) rest stack =
      ap (λ s. run ts s stack) (append_assoc (postfix p) (step.Apply o 1 ∷ []) rest)
      ∙ run_postfix p (step.Apply o 1 ∷ rest) stack
      ∙ with_same (filled ts p) (λ t. run ts (step.Apply o 1 ∷ rest) (stack ++ (t ∷ []))) (λ t. with_some (sorted (tree.Apply o (t ∷ []))) (λ r. run ts rest (stack ++ (r ∷ [])))) (λ t. applied o 1 (t ∷ []) stack rest refl)
      ∙ sym (with_assoc (filled ts p) (λ t. sorted (tree.Apply o (t ∷ []))) (λ r. run ts rest (stack ++ (r ∷ []))))
  run_postfix (over2 o p q) rest stack =
      ap (λ s. run ts s stack) (append_assoc (postfix p) (postfix q ++ (step.Apply o 2 ∷ [])) rest ∙ ap (λ s. postfix p ++ s) (append_assoc (postfix q) (step.Apply o 2 ∷ []) rest))
      ∙ run_postfix p (postfix q ++ (step.Apply o 2 ∷ rest)) stack
      ∙ with_same (filled ts p) (λ t. run ts (postfix q ++ (step.Apply o 2 ∷ rest)) (stack ++ (t ∷ []))) (λ t. with_some (with_some (filled ts q) (λ u. sorted (tree.Apply o (t ∷ u ∷ [])))) (λ r. run ts rest (stack ++ (r ∷ []))))
      (λ t. run_postfix q (step.Apply o 2 ∷ rest) (stack ++ (t ∷ []))
      ∙ with_same (filled ts q) (λ u. run ts (step.Apply o 2 ∷ rest) ((stack ++ (t ∷ [])) ++ (u ∷ []))) (λ u. with_some (sorted (tree.Apply o (t ∷ u ∷ []))) (λ r. run ts rest (stack ++ (r ∷ []))))
      (λ u. ap (λ st. run ts (step.Apply o 2 ∷ rest) st) (append_assoc stack (t ∷ []) (u ∷ [])) ∙ applied o 2 (t ∷ u ∷ []) stack rest refl)
      ∙ sym (with_assoc (filled ts q) (λ u. sorted (tree.Apply o (t ∷ u ∷ []))) (λ r. run ts rest (stack ++ (r ∷ [])))))
      ∙ sym (with_assoc (filled ts p) (λ t. with_some (filled ts q) (λ u. sorted (tree.Apply o (t ∷ u ∷ [])))) (λ r. run ts rest (stack ++ (r ∷ []))))
  run_postfix (over3 o p q x) rest stack =
      ap (λ s. run ts s stack) (append_assoc (postfix p) (postfix q ++ (postfix x ++ (step.Apply o 3 ∷ []))) rest
      ∙ ap (λ s. postfix p ++ s) (append_assoc (postfix q) (postfix x ++ (step.Apply o 3 ∷ [])) rest ∙ ap (λ s. postfix q ++ s) (append_assoc (postfix x) (step.Apply o 3 ∷ []) rest)))
      ∙ run_postfix p (postfix q ++ (postfix x ++ (step.Apply o 3 ∷ rest))) stack
      ∙ with_same (filled ts p) (λ t. run ts (postfix q ++ (postfix x ++ (step.Apply o 3 ∷ rest))) (stack ++ (t ∷ []))) (λ t. with_some (with_some (filled ts q) (λ u. with_some (filled ts x) (λ v. sorted (tree.Apply o (t ∷ u ∷ v ∷ []))))) (λ r. run ts rest (stack ++ (r ∷ []))))
      (λ t. run_postfix q (postfix x ++ (step.Apply o 3 ∷ rest)) (stack ++ (t ∷ []))
      ∙ with_same (filled ts q) (λ u. run ts (postfix x ++ (step.Apply o 3 ∷ rest)) ((stack ++ (t ∷ [])) ++ (u ∷ []))) (λ u. with_some (with_some (filled ts x) (λ v. sorted (tree.Apply o (t ∷ u ∷ v ∷ [])))) (λ r. run ts rest (stack ++ (r ∷ []))))
      (λ u. run_postfix x (step.Apply o 3 ∷ rest) ((stack ++ (t ∷ [])) ++ (u ∷ []))
      ∙ with_same (filled ts x) (λ v. run ts (step.Apply o 3 ∷ rest) (((stack ++ (t ∷ [])) ++ (u ∷ [])) ++ (v ∷ []))) (λ v. with_some (sorted (tree.Apply o (t ∷ u ∷ v ∷ []))) (λ r. run ts rest (stack ++ (r ∷ []))))
      (λ v. ap (λ st. run ts (step.Apply o 3 ∷ rest) st) (append_assoc (stack ++ (t ∷ [])) (u ∷ []) (v ∷ []) ∙ append_assoc stack (t ∷ []) (u ∷ v ∷ [])) ∙ applied o 3 (t ∷ u ∷ v ∷ []) stack rest refl)
      ∙ sym (with_assoc (filled ts x) (λ v. sorted (tree.Apply o (t ∷ u ∷ v ∷ []))) (λ r. run ts rest (stack ++ (r ∷ [])))))
      ∙ sym (with_assoc (filled ts q) (λ u. with_some (filled ts x) (λ v. sorted (tree.Apply o (t ∷ u ∷ v ∷ [])))) (λ r. run ts rest (stack ++ (r ∷ [])))))
      ∙ sym (with_assoc (filled ts p) (λ t. with_some (filled ts q) (λ u. with_some (filled ts x) (λ v. sorted (tree.Apply o (t ∷ u ∷ v ∷ []))))) (λ r. run ts rest (stack ++ (r ∷ []))))

  -- the steps of a pattern make its term
  pub made_postfix : (p : Pattern) → made_by ts (postfix p) ≡ filled ts p
  made_postfix p =
      ap (λ s. with_some (run ts s []) (λ stack. slice_get stack (length stack - 1))) (sym (append-nil (postfix p)))
      ∙ ap (λ o. with_some o (λ stack. slice_get stack (length stack - 1))) (run_postfix p [] [])
      ∙ pick (filled ts p)
    where
      pick : (o : Option TermTree) → with_some (with_some o (λ t. run ts [] ([] ++ (t ∷ [])))) (λ stack. slice_get stack (length stack - 1)) ≡ o
      pick None = refl
      pick (Some t) = refl

  formula_same : (steps : List Step) (p : Pattern) → steps ≡ postfix p → with_some (made_by ts steps) as_formula ≡ formula ts p
  formula_same steps p e = ap (λ s. with_some (made_by ts s) as_formula) e ∙ ap (λ o. with_some o as_formula) (made_postfix p)

  asked_same : (rs : List Asked) (ps : List Premise) → map premise_read rs ≡ map premise_written ps → asked_by ts rs ≡ asked ts ps
  asked_same [] [] e = refl
  asked_same [] (p ∷ ps) e = absurd cc
  asked_same (r ∷ rs) [] e = absurd cc
  asked_same (r ∷ rs) (p ∷ ps) e =
      let first : premise_read r ≡ premise_written p = cc in
      let others : map premise_read rs ≡ map premise_written ps = cc in
      ap (λ b. asked_first b (formula_by ts r.steps) (asked_by ts rs)) (ap (is_asked ts) (ap (λ x. x.0) first))
      ∙ ap (λ f. asked_first (is_asked ts p.bytes) f (asked_by ts rs)) (formula_same (slice_range STEPS r.steps.from r.steps.to) p.formula (ap (λ x. x.1) first))
      ∙ ap (λ o. asked_first (is_asked ts p.bytes) (formula ts p.formula) o) (asked_same rs ps others)

  -- what the code does with the row of an axiom
  abbrev pub by_row : Row → Bool → Option (List TermTree) → Option TermTree → Option (List TermTree × TermTree)
  by_row row fit us t = cond fit (with_some us (λ ws. with_some t (λ w. Some (ws, w)))) None

  pub instance_by : (n : ℕ) (row : Row) (a : Axiom) → numbered n ≡ Some a → IsWritten row a
      → instance_of n ts ≡ by_row row (all_fit ts ts (slice_range KINDS row.kinds.from row.kinds.to)) (asked_by ts (slice_range PREMISES row.premises.from row.premises.to)) (formula_by ts row.conclusion)
  instance_by n row a e w =
      ap (λ o. with_some o (over_parts ts)) e
      ∙ sym (ap (λ ks. by_row row (all_fit ts ts ks) (asked ts a.premises) (formula ts a.conclusion)) w.kinds)
      ∙ sym (ap (λ us. by_row row (all_fit ts ts (slice_range KINDS row.kinds.from row.kinds.to)) us (formula ts a.conclusion)) (asked_same (slice_range PREMISES row.premises.from row.premises.to) a.premises w.premises))
      ∙ sym (ap (λ t. by_row row (all_fit ts ts (slice_range KINDS row.kinds.from row.kinds.to)) (asked_by ts (slice_range PREMISES row.premises.from row.premises.to)) t) (formula_same (slice_range STEPS row.conclusion.from row.conclusion.to) a.conclusion w.conclusion))

  pub none_unfit : (n : ℕ) (row : Row) (a : Axiom) → numbered n ≡ Some a → IsWritten row a → all_fit ts ts (slice_range KINDS row.kinds.from row.kinds.to) ≡ false → instance_of n ts ≡ None
  none_unfit n row a e w unfit =
      instance_by n row a e w
      ∙ ap (λ b. by_row row b (asked_by ts (slice_range PREMISES row.premises.from row.premises.to)) (formula_by ts row.conclusion)) unfit

  pub none_asked : (n : ℕ) (row : Row) (a : Axiom) → numbered n ≡ Some a → IsWritten row a → asked_by ts (slice_range PREMISES row.premises.from row.premises.to) ≡ None → instance_of n ts ≡ None
  none_asked n row a e w none =
      instance_by n row a e w
      ∙ ap (λ o. by_row row (all_fit ts ts (slice_range KINDS row.kinds.from row.kinds.to)) o (formula_by ts row.conclusion)) none
      ∙ pick (all_fit ts ts (slice_range KINDS row.kinds.from row.kinds.to))
    where
      pick : (fit : Bool) → by_row row fit None (formula_by ts row.conclusion) ≡ None
      pick true = refl
      pick false = refl

  pub none_given : (n : ℕ) (row : Row) (a : Axiom) → numbered n ≡ Some a → IsWritten row a → formula_by ts row.conclusion ≡ None → instance_of n ts ≡ None
  none_given n row a e w none =
      instance_by n row a e w
      ∙ ap (λ o. by_row row (all_fit ts ts (slice_range KINDS row.kinds.from row.kinds.to)) (asked_by ts (slice_range PREMISES row.premises.from row.premises.to)) o) none
      ∙ pick (all_fit ts ts (slice_range KINDS row.kinds.from row.kinds.to)) (asked_by ts (slice_range PREMISES row.premises.from row.premises.to))
    where
      pick : (fit : Bool) (us : Option (List TermTree)) → by_row row fit us None ≡ None
      pick true None = refl
      pick true (Some us) = refl
      pick false us = refl

  pub all_given : (n : ℕ) (row : Row) (a : Axiom) → numbered n ≡ Some a → IsWritten row a → all_fit ts ts (slice_range KINDS row.kinds.from row.kinds.to) ≡ true
      → (us : List TermTree) (t : TermTree) → asked_by ts (slice_range PREMISES row.premises.from row.premises.to) ≡ Some us → formula_by ts row.conclusion ≡ Some t → instance_of n ts ≡ Some (us, t)
  all_given n row a e w fit us t asks gives =
      instance_by n row a e w
      ∙ ap (λ b. by_row row b (asked_by ts (slice_range PREMISES row.premises.from row.premises.to)) (formula_by ts row.conclusion)) fit
      ∙ ap (λ o. by_row row true o (formula_by ts row.conclusion)) asks
      ∙ ap (by_row row true (Some us)) gives
