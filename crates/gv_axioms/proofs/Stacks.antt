-- Steps of the code, one after another, while the store grows.
use Rattle.std.proofs.Common.{◌≡◌, ℕ, zero, suc, ◌+◌, ◌-◌, ◌<◌, ◌≤◌, List, [], ◌∷◌, ◌++◌, Option, Some, None, true, false, length, take, drop, get_or, map, option_map, refl, ap, sym, ◌∙◌, subst, arith, append_assoc, length-append}
use Rattle.std.specs.Prelude.{slice_get}
use Rattle.std.proofs.lemmas.List.{length-map, drop_more, drop_all, take-map, map-append, append-nil}
use Rattle.std.proofs.lemmas.List.Elements.{All-append, All-take, All-cons, All-nil}
use Rattle.gv_terms.specs.declared.term.Term.{Term}
use Rattle.gv_terms.specs.declared.operator.Operator.{Operator}
use Rattle.gv_terms.specs.declared.tree.TermTree.{TermTree}
use Rattle.gv_terms.specs.declared.tree.TermTree.TheVariants as tree
use Rattle.gv_terms.specs.Store.{tree_at, trees_at, AreIn, Grows}
use Rattle.gv_terms.proofs.Grown.{trees_kept}
use Rattle.gv_axioms.specs.declared.row.Premise.{Premise as Asked}
use Rattle.gv_axioms.specs.declared.step.Step.{Step}
use Rattle.gv_axioms.specs.declared.step.Step.TheVariants as steps
use Rattle.gv_axioms.specs.Filling.{with_some, sorted}
use Rattle.gv_axioms.specs.Instances.{is_asked, asked_first}
use Rattle.gv_axioms.specs.Steps.{step_tree, taken, after, run, made_by, formula_by, asked_by}

pub drop_map : {A B : Type 0} (f : A → B) (n : ℕ) (xs : List A) → drop n (map f xs) ≡ map f (drop n xs)
drop_map f zero xs = refl
drop_map f (suc n) [] = refl
drop_map f (suc n) (x ∷ xs) = drop_map f n xs

pub get_map : {A B : Type 0} (f : A → B) (xs : List A) (i : ℕ) → slice_get (map f xs) i ≡ option_map f (slice_get xs i)
get_map f [] i = refl
get_map f (x ∷ xs) zero = refl
get_map f (x ∷ xs) (suc i) = get_map f xs i

-- the trees of the last terms are the last trees
pub last_trees : (store : List TermTree) (stack : List Term) (n : ℕ) → trees_at store (drop (length stack - n) stack) ≡ drop (length (trees_at store stack) - n) (trees_at store stack)
last_trees store stack n =
    sym (drop_map (λ t. tree_at store t.id) (length stack - n) stack) ∙ ap (λ k. drop (k - n) (trees_at store stack)) (sym (length-map stack (λ t. tree_at store t.id)))

-- the tree that an operator's step makes
pub applied_tree : (ts store : List TermTree) (stack operands : List Term) (s : Step) (o : Operator) (n : ℕ) → s ≡ steps.Apply o n → operands ≡ drop (length stack - n) stack
    → sorted (tree.Apply o (trees_at store operands)) ≡ step_tree ts s (trees_at store stack)
applied_tree ts store stack operands s o n is e =
    ap (λ us. sorted (tree.Apply o us)) (ap (trees_at store) e ∙ last_trees store stack n) ∙ sym (ap (λ r. step_tree ts r (trees_at store stack)) is)

pub in_grown : (old new : List TermTree) (ps : List Term) → AreIn old ps → Grows old new → AreIn new ps
in_grown old new ps within grows k d lt = let h = within k d lt in omega (arith, h, ap length grows.1, length-append old grows.0)

pub same_trees : (old new : List TermTree) (ps : List Term) → AreIn old ps → Grows old new → trees_at new ps ≡ trees_at old ps
same_trees old new ps within grows = ap (λ ts. trees_at ts ps) grows.1 ∙ trees_kept old grows.0 ps within

pub pushed_in : (old new : List TermTree) (ps more : List Term) (n : ℕ) (t : Term) → AreIn old ps → Grows old new → t.id < length new → more ≡ take n ps ++ t ∷ [] → AreIn new more
pushed_in old new ps more n t within grows inside e =
    subst (AreIn new) (sym e)
    (All-append (λ p. p.id < length new) (take n ps) (t ∷ []) (All-take (λ p. p.id < length new) n ps (in_grown old new ps within grows))
    (All-cons (λ p. p.id < length new) t [] inside (All-nil (λ p. p.id < length new))))

pub one_more_in : (old new : List TermTree) (ps more : List Term) (t : Term) → AreIn old ps → Grows old new → t.id < length new → more ≡ ps ++ t ∷ [] → AreIn new more
one_more_in old new ps more t within grows inside e =
    subst (AreIn new) (sym e)
    (All-append (λ p. p.id < length new) ps (t ∷ []) (in_grown old new ps within grows)
    (All-cons (λ p. p.id < length new) t [] inside (All-nil (λ p. p.id < length new))))

-- the tree that a step makes, where the store has grown
pub step_there : (old now : List TermTree) (parts given stack : List Term) (s : Step) → AreIn old parts → Grows old now → given ≡ stack
    → step_tree (trees_at old parts) s (trees_at now stack) ≡ step_tree (trees_at now parts) s (trees_at now given)
step_there old now parts given stack s within grows e =
    ap (λ us. step_tree us s (trees_at now stack)) (sym (same_trees old now parts within grows))
    ∙ ap (λ vs. step_tree (trees_at now parts) s (trees_at now vs)) (sym e)

module _ (ts : List TermTree) where
  here : (steps : List Step) (i : ℕ) (step : Step) (stack : List TermTree) → i < length steps → step ≡ get_or steps i step → run ts (drop i steps) stack ≡ with_some (after ts step stack) (run ts (drop (i + 1) steps))
  here steps i step stack lt is = ap (λ s. run ts s stack) (drop_more steps i step lt ∙ ap (λ s. s ∷ drop (i + 1) steps) (sym is))

  -- a step that makes a term
  pub step_made : (steps : List Step) (i : ℕ) (step : Step) (old new : List TermTree) (stack more : List Term) (n : ℕ) (term : Term) → i < length steps → step ≡ get_or steps i step → AreIn old stack → Grows old new
      → run ts (drop i steps) (trees_at old stack) ≡ run ts steps [] → step_tree ts step (trees_at old stack) ≡ Some (tree_at new term.id) → n ≡ length stack - taken step → more ≡ take n stack ++ term ∷ []
      → run ts (drop (i + 1) steps) (trees_at new more) ≡ run ts steps []
  step_made steps i step old new stack more n term lt is within grows stand made at e =
      let t = tree_at new term.id in
      let kept : trees_at new (take n stack) ≡ take (length (trees_at old stack) - taken step) (trees_at old stack) =
      same_trees old new (take n stack) (All-take (λ p. p.id < length old) n stack within) grows
      ∙ sym (take-map (λ p. tree_at old p.id) n stack) ∙ ap (λ k. take k (trees_at old stack)) (at ∙ ap (λ k. k - taken step) (sym (length-map stack (λ p. tree_at old p.id)))) in
      let whole : trees_at new more ≡ take (length (trees_at old stack) - taken step) (trees_at old stack) ++ t ∷ [] =
      ap (trees_at new) e ∙ map-append (λ p. tree_at new p.id) (take n stack) (term ∷ []) ∙ ap (λ k. k ++ t ∷ []) kept in
      ap (run ts (drop (i + 1) steps)) whole
      ∙ sym (ap (λ o. with_some (with_some o (λ u. Some (take (length (trees_at old stack) - taken step) (trees_at old stack) ++ u ∷ []))) (run ts (drop (i + 1) steps))) made)
      ∙ sym (here steps i step (trees_at old stack) lt is) ∙ stand

  -- a step that makes none
  pub step_none : (steps : List Step) (i : ℕ) (step : Step) (stack : List TermTree) → i < length steps → step ≡ get_or steps i step → run ts (drop i steps) stack ≡ run ts steps [] → step_tree ts step stack ≡ None → made_by ts steps ≡ None
  step_none steps i step stack lt is stand none =
      ap (λ o. with_some o (λ st. slice_get st (length st - 1)))
      (sym stand ∙ here steps i step stack lt is ∙ ap (λ o. with_some (with_some o (λ u. Some (take (length stack - taken step) stack ++ u ∷ []))) (run ts (drop (i + 1) steps))) none)

  -- behind the last step
  pub steps_end : (steps : List Step) (i : ℕ) (store : List TermTree) (stack : List Term) → length steps ≤ i → run ts (drop i steps) (trees_at store stack) ≡ run ts steps []
      → made_by ts steps ≡ option_map (λ t. tree_at store t.id) (slice_get stack (length stack - 1))
  steps_end steps i store stack le stand =
      ap (λ o. with_some o (λ st. slice_get st (length st - 1))) (sym stand ∙ ap (λ s. run ts s (trees_at store stack)) (drop_all i steps le))
      ∙ ap (λ k. slice_get (trees_at store stack) (k - 1)) (length-map stack (λ t. tree_at store t.id))
      ∙ get_map (λ t. tree_at store t.id) stack (length stack - 1)

  -- Premises.

  asked_here : (rows : List Asked) (i : ℕ) (r : Asked) → i < length rows → r ≡ get_or rows i r → asked_by ts (drop i rows) ≡ asked_first (is_asked ts r.bytes) (formula_by ts r.steps) (asked_by ts (drop (i + 1) rows))
  asked_here rows i r lt is = ap (asked_by ts) (drop_more rows i r lt ∙ ap (λ s. s ∷ drop (i + 1) rows) (sym is))

  pub asked_skip : (rows : List Asked) (i : ℕ) (r : Asked) (done : List TermTree) → i < length rows → r ≡ get_or rows i r → is_asked ts r.bytes ≡ false
      → asked_by ts rows ≡ with_some (asked_by ts (drop i rows)) (λ us. Some (done ++ us)) → asked_by ts rows ≡ with_some (asked_by ts (drop (i + 1) rows)) (λ us. Some (done ++ us))
  asked_skip rows i r done lt is off stand =
      stand ∙ ap (λ o. with_some o (λ us. Some (done ++ us))) (asked_here rows i r lt is ∙ ap (λ b. asked_first b (formula_by ts r.steps) (asked_by ts (drop (i + 1) rows))) off)

  pub asked_more : (rows : List Asked) (i : ℕ) (r : Asked) (old new : List TermTree) (terms more : List Term) (term : Term) → i < length rows → r ≡ get_or rows i r → is_asked ts r.bytes ≡ true
      → formula_by ts r.steps ≡ Some (tree_at new term.id) → AreIn old terms → Grows old new → more ≡ terms ++ term ∷ []
      → asked_by ts rows ≡ with_some (asked_by ts (drop i rows)) (λ us. Some (trees_at old terms ++ us)) → asked_by ts rows ≡ with_some (asked_by ts (drop (i + 1) rows)) (λ us. Some (trees_at new more ++ us))
  asked_more rows i r old new terms more term lt is on made within grows e stand =
      let t = tree_at new term.id in
      let whole : trees_at new more ≡ trees_at old terms ++ t ∷ [] =
      ap (trees_at new) e ∙ map-append (λ p. tree_at new p.id) terms (term ∷ []) ∙ ap (λ k. k ++ t ∷ []) (same_trees old new terms within grows) in
      stand
      ∙ ap (λ o. with_some o (λ us. Some (trees_at old terms ++ us)))
      (asked_here rows i r lt is ∙ ap (λ b. asked_first b (formula_by ts r.steps) (asked_by ts (drop (i + 1) rows))) on ∙ ap (λ f. asked_first true f (asked_by ts (drop (i + 1) rows))) made)
      ∙ pick (asked_by ts (drop (i + 1) rows)) (trees_at old terms) t
      ∙ ap (λ d. with_some (asked_by ts (drop (i + 1) rows)) (λ us. Some (d ++ us))) (sym whole)
    where
      pick : (o : Option (List TermTree)) (done : List TermTree) (u : TermTree) → with_some (with_some o (λ us. Some (u ∷ us))) (λ us. Some (done ++ us)) ≡ with_some o (λ us. Some ((done ++ u ∷ []) ++ us))
      pick None done u = refl
      pick (Some us) done u = ap Some (sym (append_assoc done (u ∷ []) us))

  pub asked_none : (rows : List Asked) (i : ℕ) (r : Asked) (done : List TermTree) → i < length rows → r ≡ get_or rows i r → is_asked ts r.bytes ≡ true → formula_by ts r.steps ≡ None
      → asked_by ts rows ≡ with_some (asked_by ts (drop i rows)) (λ us. Some (done ++ us)) → asked_by ts rows ≡ None
  asked_none rows i r done lt is on none stand =
      stand
      ∙ ap (λ o. with_some o (λ us. Some (done ++ us)))
      (asked_here rows i r lt is ∙ ap (λ b. asked_first b (formula_by ts r.steps) (asked_by ts (drop (i + 1) rows))) on ∙ ap (λ f. asked_first true f (asked_by ts (drop (i + 1) rows))) none)

  pub asked_end : (rows : List Asked) (i : ℕ) (done : List TermTree) → length rows ≤ i → asked_by ts rows ≡ with_some (asked_by ts (drop i rows)) (λ us. Some (done ++ us)) → asked_by ts rows ≡ Some done
  asked_end rows i done le stand = stand ∙ ap (λ s. with_some (asked_by ts s) (λ us. Some (done ++ us))) (drop_all i rows le) ∙ ap Some (append-nil done)
