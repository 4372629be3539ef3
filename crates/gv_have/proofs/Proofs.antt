-- Certificates that stand in one another, and what is known meanwhile.
use Rattle.std.proofs.Common.{◌≡◌, inl, inr, ℕ, zero, suc, ◌<◌, ◌≤◌, List, [], ◌∷◌, ◌++◌, length, take, Option, Some, None, option_map, refl, sym, ap, ◌∙◌, subst, arith}
use Rattle.std.proofs.lemmas.List.{map-append, length-append, take_all}
use Rattle.gv_terms.specs.declared.term.Term.{Term}
use Rattle.gv_terms.specs.declared.tree.TermTree.{TermTree}
use Rattle.gv_terms.specs.Store.{tree_at, trees_at, AreIn, Grows}
use Rattle.gv_axioms.specs.Filling.{with_some}
use Rattle.gv_certs.specs.declared.fault.RuleFault.{RuleFault}
use Rattle.gv_certs.specs.declared.fault.RuleFault.TheVariants as fault
use Rattle.gv_certs.specs.Trees.{negation}
use Rattle.gv_terms.specs.declared.sort.Sort.TheVariants as sort
use Rattle.gv_terms.specs.declared.operator.Operator.TheVariants as op
use Rattle.gv_terms.specs.declared.tree.Head.TheVariants as head
use Rattle.gv_terms.specs.Trees.{sort_of_node}
use Rattle.gv_terms.proofs.NodeSorts.{sort_apply}
use Rattle.gv_certs.specs.Proving.{Leaf, premises, Certificate, by, cases, then, with_fact, Proves, Fails}
use Rattle.gv_side.specs.Telling.{IsFault}
use Rattle.gv_side.proofs.Lists.{trees_same}
use Rattle.gv_sums.specs.Telling.{IsFailure}
use Rattle.gv_have.specs.Scoping.{cases_in}
use Rattle.gv_have.proofs.Forms.{stepped}
use Rattle.gv_have.specs.Telling.{IsUnscoped, IsProof, IsNoProof}

-- ---- what stands for nothing

pub never_unscoped : {A : Type 0} (x : Option A) (a : A) (e : RuleFault) → x ≡ Some a → IsUnscoped x e → e ≡ fault.NoMemory
never_unscoped x a fault.NoMemory is h = refl
never_unscoped x a (fault.Cause k) is h = let clash : None ≡ Some a = sym h.1 ∙ is in absurd cc

-- a fault of a term leaves no certificate
pub unscoped : {A : Type 0} (x : Option A) (make : A → Option Certificate) (F : List TermTree) (f : TermTree) (e : RuleFault) → IsUnscoped x e → IsNoProof (with_some x make) F f e
unscoped x make F f fault.NoMemory h c is = tt
unscoped None make F f (fault.Cause k) h c is = absurd cc
unscoped (Some a) make F f (fault.Cause k) h c is = let clash : Some a ≡ None = h.1 in absurd cc

pub unscoped_map : {A : Type 0} (x : Option A) (make : A → Certificate) (F : List TermTree) (f : TermTree) (e : RuleFault) → IsUnscoped x e → IsNoProof (option_map make x) F f e
unscoped_map x make F f fault.NoMemory h c is = tt
unscoped_map None make F f (fault.Cause k) h c is = absurd cc
unscoped_map (Some a) make F f (fault.Cause k) h c is = let clash : Some a ≡ None = h.1 in absurd cc

pub unscoped_second : {A B : Type 0} (x : Option A) (y : Option B) (make : A → B → Certificate) (F : List TermTree) (f : TermTree) (e : RuleFault) → IsUnscoped y e
    → IsNoProof (with_some x (λ a. option_map (make a) y)) F f e
unscoped_second x y make F f fault.NoMemory h c is = tt
unscoped_second None y make F f (fault.Cause k) h c is = absurd cc
unscoped_second (Some a) None make F f (fault.Cause k) h c is = absurd cc
unscoped_second (Some a) (Some b) make F f (fault.Cause k) h c is = let clash : Some b ≡ None = h.1 in absurd cc

pub no_memory : (o : Option Certificate) (F : List TermTree) (f : TermTree) → IsNoProof o F f fault.NoMemory
no_memory o F f c is = tt

-- ---- certificates that are there

pub one : (a : Certificate) (F : List TermTree) (f : TermTree) → Proves F f a → IsProof (Some a) F f
one a F f p c is = let same : a ≡ c = cc in subst (Proves F f) same p

pub no_one : (a : Certificate) (F : List TermTree) (f : TermTree) (e : RuleFault) → IsFailure F f a e → IsNoProof (Some a) F f e
no_one a F f e p c is = let same : a ≡ c = cc in subst (λ b. IsFailure F f b e) same p

pub mapped : {A : Type 0} (x : Option A) (a : A) (make : A → Certificate) (F : List TermTree) (f : TermTree) → x ≡ Some a → Proves F f (make a) → IsProof (option_map make x) F f
mapped x a make F f is p = subst (λ o. IsProof (option_map make o) F f) (sym is) (one (make a) F f p)

pub not_mapped : {A : Type 0} (x : Option A) (a : A) (make : A → Certificate) (F : List TermTree) (f : TermTree) (e : RuleFault) → x ≡ Some a → IsFailure F f (make a) e → IsNoProof (option_map make x) F f e
not_mapped x a make F f e is p = subst (λ o. IsNoProof (option_map make o) F f e) (sym is) (no_one (make a) F f e p)

pub both_mapped : {A B : Type 0} (x : Option A) (y : Option B) (a : A) (b : B) (make : A → B → Certificate) (F : List TermTree) (f : TermTree) → x ≡ Some a → y ≡ Some b → Proves F f (make a b)
    → IsProof (with_some x (λ a. option_map (make a) y)) F f
both_mapped x y a b make F f is js p = subst (λ o. IsProof (with_some o (λ a. option_map (make a) y)) F f) (sym is) (mapped y b (make a) F f js p)

pub not_both_mapped : {A B : Type 0} (x : Option A) (y : Option B) (a : A) (b : B) (make : A → B → Certificate) (F : List TermTree) (f : TermTree) (e : RuleFault) → x ≡ Some a → y ≡ Some b
    → IsFailure F f (make a b) e → IsNoProof (with_some x (λ a. option_map (make a) y)) F f e
not_both_mapped x y a b make F f e is js p = subst (λ o. IsNoProof (with_some o (λ a. option_map (make a) y)) F f e) (sym is) (not_mapped y b (make a) F f e js p)

-- ---- cases

module _ (F : List TermTree) (f : TermTree) where
  pub by_cases : (g : Option TermTree) (h d : Option Certificate) (t : TermTree) → g ≡ Some t → IsProof h (with_fact F t) f → IsProof d (with_fact F (negation t)) f → IsProof (cases_in g h d) F f
  by_cases None h d t e p q c is = absurd cc
  by_cases (Some u) None d t e p q c is = absurd cc
  by_cases (Some u) (Some a) None t e p q c is = absurd cc
  by_cases (Some u) (Some a) (Some b) t e p q c is =
      let same : t ≡ u = cc in
      let whole : cases u a b ≡ c = cc in
      subst (Proves F f) whole (subst (λ v. Proves F f (cases v a b)) same (p a refl, q b refl))

  pub first_case : (g : Option TermTree) (h d : Option Certificate) (t : TermTree) (e : RuleFault) → g ≡ Some t → IsNoProof h (with_fact F t) f e → IsNoProof (cases_in g h d) F f e
  first_case g h d t fault.NoMemory e p c is = tt
  first_case None h d t (fault.Cause k) e p c is = absurd cc
  first_case (Some u) None d t (fault.Cause k) e p c is = absurd cc
  first_case (Some u) (Some a) None t (fault.Cause k) e p c is = absurd cc
  first_case (Some u) (Some a) (Some b) t (fault.Cause k) e p c is =
      let same : t ≡ u = cc in
      let whole : cases u a b ≡ c = cc in
      subst (λ w. Fails F f w k) whole (subst (λ v. Fails F f (cases v a b) k) same (inl (p a refl)))

  pub second_case : (g : Option TermTree) (h d : Option Certificate) (t : TermTree) (e : RuleFault) → g ≡ Some t → IsProof h (with_fact F t) f → IsNoProof d (with_fact F (negation t)) f e
      → IsNoProof (cases_in g h d) F f e
  second_case g h d t fault.NoMemory e p q c is = tt
  second_case None h d t (fault.Cause k) e p q c is = absurd cc
  second_case (Some u) None d t (fault.Cause k) e p q c is = absurd cc
  second_case (Some u) (Some a) None t (fault.Cause k) e p q c is = absurd cc
  second_case (Some u) (Some a) (Some b) t (fault.Cause k) e p q c is =
      let same : t ≡ u = cc in
      let whole : cases u a b ≡ c = cc in
      subst (λ w. Fails F f w k) whole (subst (λ v. Fails F f (cases v a b) k) same (inr (p a refl, q b refl)))

  -- ---- steps

  pub step_proves : (x : Option TermTree) (k r : Option Certificate) (t : TermTree) → x ≡ Some t → IsProof k F t → IsProof r (with_fact F t) f → IsProof (stepped x k r) F f
  step_proves None k r t e p q c is = absurd cc
  step_proves (Some u) None r t e p q c is = absurd cc
  step_proves (Some u) (Some a) None t e p q c is = absurd cc
  step_proves (Some u) (Some a) (Some b) t e p q c is =
      let same : t ≡ u = cc in
      let whole : then u a b ≡ c = cc in
      subst (Proves F f) whole (subst (λ v. Proves F f (then v a b)) same (p a refl, q b refl))

  pub step_fails : (x : Option TermTree) (k r : Option Certificate) (t : TermTree) (e : RuleFault) → x ≡ Some t → IsNoProof k F t e → IsNoProof (stepped x k r) F f e
  step_fails x k r t fault.NoMemory e p c is = tt
  step_fails None k r t (fault.Cause j) e p c is = absurd cc
  step_fails (Some u) None r t (fault.Cause j) e p c is = absurd cc
  step_fails (Some u) (Some a) None t (fault.Cause j) e p c is = absurd cc
  step_fails (Some u) (Some a) (Some b) t (fault.Cause j) e p c is =
      let same : t ≡ u = cc in
      let whole : then u a b ≡ c = cc in
      subst (λ w. Fails F f w j) whole (subst (λ v. Fails F f (then v a b) j) same (inl (p a refl)))

  pub later_fails : (x : Option TermTree) (k r : Option Certificate) (t : TermTree) (e : RuleFault) → x ≡ Some t → IsProof k F t → IsNoProof r (with_fact F t) f e → IsNoProof (stepped x k r) F f e
  later_fails x k r t fault.NoMemory e p q c is = tt
  later_fails None k r t (fault.Cause j) e p q c is = absurd cc
  later_fails (Some u) None r t (fault.Cause j) e p q c is = absurd cc
  later_fails (Some u) (Some a) None t (fault.Cause j) e p q c is = absurd cc
  later_fails (Some u) (Some a) (Some b) t (fault.Cause j) e p q c is =
      let same : t ≡ u = cc in
      let whole : then u a b ≡ c = cc in
      subst (λ w. Fails F f w j) whole (subst (λ v. Fails F f (then v a b) j) same (inr (p a refl, q b refl)))

  pub step_unscoped : (x : Option TermTree) (k r : Option Certificate) (e : RuleFault) → IsUnscoped x e → IsNoProof (stepped x k r) F f e
  step_unscoped x k r fault.NoMemory h c is = tt
  step_unscoped None k r (fault.Cause j) h c is = absurd cc
  step_unscoped (Some u) k r (fault.Cause j) h c is = let clash : Some u ≡ None = h.1 in absurd cc

-- ---- facts that are added and taken away again

taken_short : (n : ℕ) (xs : List Term) → length (take n xs) ≤ length xs
taken_short zero xs = omega arith
taken_short (suc n) [] = omega arith
taken_short (suc n) (x ∷ xs) = let rest = taken_short n xs in omega (arith, rest)

taken_front : (n : ℕ) (xs ys : List Term) → n ≤ length xs → take n (xs ++ ys) ≡ take n xs
taken_front zero xs ys le = refl
taken_front (suc n) [] ys le = absurd (omega arith)
taken_front (suc n) (x ∷ xs) ys le = ap (λ zs. x ∷ zs) (taken_front n xs ys (omega arith))

-- what was kept of the facts still is, behind one fact more
pub kept_behind : (first now more : List Term) (t : Term) → take (length first) now ≡ first → more ≡ now ++ t ∷ [] → take (length first) more ≡ first
kept_behind first now more t kept e =
    let short = taken_short (length first) now in
    let same : length (take (length first) now) ≡ length first = ap length kept in
    ap (take (length first)) e ∙ taken_front (length first) now (t ∷ []) (omega (arith, short, same)) ∙ kept

-- and of what is kept of that
pub kept_through : (first now last : List Term) → take (length first) now ≡ first → take (length now) last ≡ now → take (length first) last ≡ first
kept_through first now last kept more =
    let short = taken_short (length first) now in
    let same : length (take (length first) now) ≡ length first = ap length kept in
    sym (taken_again (length first) (length now) last (omega (arith, short, same))) ∙ ap (take (length first)) more ∙ kept
  where
    taken_again : (n m : ℕ) (xs : List Term) → n ≤ m → take n (take m xs) ≡ take n xs
    taken_again zero m xs le = refl
    taken_again (suc n) zero xs le = absurd (omega arith)
    taken_again (suc n) (suc m) [] le = refl
    taken_again (suc n) (suc m) (x ∷ xs) le = ap (λ ys. x ∷ ys) (taken_again n m xs (omega arith))

-- the trees of facts with one more
pub with_one : (old new : List TermTree) (facts more : List Term) (t : Term) → AreIn old facts → Grows old new → more ≡ facts ++ t ∷ [] → trees_at new more ≡ with_fact (trees_at old facts) (tree_at new t.id)
with_one old new facts more t within grows e =
    ap (trees_at new) e ∙ map-append (λ q. tree_at new q.id) facts (t ∷ []) ∙ ap (λ ts. ts ++ tree_at new t.id ∷ []) (trees_same old new facts within grows)

-- ---- forms that need no other certificate

pub of_fault : (F : List TermTree) (f : TermTree) (leaf : Leaf) (e : RuleFault) → IsFault (premises F f leaf) e → IsFailure F f (by leaf) e
of_fault F f leaf fault.NoMemory h = tt
of_fault F f leaf (fault.Cause k) h = h

pub some_map : {A : Type 0} (x : Option A) (a : A) (make : A → Certificate) → x ≡ Some a → option_map make x ≡ Some (make a)
some_map x a make e = ap (option_map make) e

pub some_both : {A B : Type 0} (x : Option A) (y : Option B) (a : A) (b : B) (make : A → B → Certificate) → x ≡ Some a → y ≡ Some b → with_some x (λ a. option_map (make a) y) ≡ Some (make a b)
some_both x y a b make e f = ap (λ o. with_some o (λ a. option_map (make a) y)) e ∙ ap (option_map (make a)) f

module _ (o : Option Certificate) (c : Certificate) (F G : List TermTree) (f g : TermTree) (there : o ≡ Some c) (facts : G ≡ F) (goal : g ≡ f) where
  pub is_proof : Proves G g c → IsProof o F f
  is_proof h = subst (λ p. IsProof p F f) (sym there) (one c F f (subst (λ E. Proves E f c) facts (subst (λ t. Proves G t c) goal h)))

  pub is_no_proof : (e : RuleFault) → IsFailure G g c e → IsNoProof o F f e
  is_no_proof e h = subst (λ p. IsNoProof p F f e) (sym there) (no_one c F f e (subst (λ E. IsFailure E f c e) facts (subst (λ t. IsFailure G t c e) goal h)))

-- ---- the formula that is never true

pub no_false : (ts : List TermTree) → ts ≡ [] → sort_of_node (head.Apply op.False) ts ≡ None → ⊥
no_false ts e h =
    let clash : None ≡ Some sort.Bool = sym h ∙ ap (λ us. sort_of_node (head.Apply op.False) us) e ∙ sort_apply op.False [] in
    absurd cc

-- ---- the same over equal facts and goals

pub moved : (o : Option Certificate) (F G : List TermTree) (f g : TermTree) → G ≡ F → g ≡ f → IsProof o G g → IsProof o F f
moved o F G f g facts goal h c is = subst (λ E. Proves E f c) facts (subst (λ t. Proves G t c) goal (h c is))

pub moved_fault : (o : Option Certificate) (F G : List TermTree) (f g : TermTree) (e : RuleFault) → G ≡ F → g ≡ f → IsNoProof o G g e → IsNoProof o F f e
moved_fault o F G f g e facts goal h c is = subst (λ E. IsFailure E f c e) facts (subst (λ t. IsFailure G t c e) goal (h c is))

pub same_proof : (o p : Option Certificate) (F : List TermTree) (f : TermTree) → o ≡ p → IsProof p F f → IsProof o F f
same_proof o p F f e h = subst (λ q. IsProof q F f) (sym e) h

pub same_fault : (o p : Option Certificate) (F : List TermTree) (f : TermTree) (k : RuleFault) → o ≡ p → IsNoProof p F f k → IsNoProof o F f k
same_fault o p F f k e h = subst (λ q. IsNoProof q F f k) (sym e) h

-- facts are as they were before one was added
pub restored : (first now last cut : List Term) (t : Term) (n : ℕ) → now ≡ first ++ t ∷ [] → take (length now) last ≡ now → n ≡ length first → cut ≡ take n last → cut ≡ first
restored first now last cut t n e kept is cutting =
    cutting ∙ ap (λ k. take k last) is ∙ kept_through first now last (kept_behind first first now t (take_all (length first) first (omega arith)) e) kept

pub cut_back : (first last cut : List Term) (n : ℕ) → take (length first) last ≡ first → n ≡ length first → cut ≡ take n last → cut ≡ first
cut_back first last cut n kept is cutting = cutting ∙ ap (λ k. take k last) is ∙ kept

pub whole_kept : (first : List Term) → take (length first) first ≡ first
whole_kept first = take_all (length first) first (omega arith)

pub grows_within : (old new : List TermTree) (t : Term) → t.id < length old → Grows old new → t.id < length new
grows_within old new t lt grows =
    let longer : length new ≡ length (old ++ grows.0) = ap (λ ts. length ts) grows.1 in
    let both = length-append old grows.0 in
    omega (arith, lt, longer, both)
