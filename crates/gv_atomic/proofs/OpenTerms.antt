-- Terms that are left to be looked at, and nodes that bear the number of a scope.
use Rattle.std.proofs.Common.{◌≡◌, ◌≢◌, ◌⊎◌, inl, inr, ℕ, ◌+◌, ◌<◌, ◌≤◌, List, [], ◌∷◌, ◌++◌, Bool, true, false, length, map, refl, sym, ap, ◌∙◌, subst, arith}
use Rattle.std.specs.Prelude.{slice_set, slice_index_or}
use Rattle.std.specs.List.{All, list_all}
use Rattle.std.proofs.lemmas.Bool.{cases_eq}
use Rattle.std.proofs.lemmas.List.{length-set, get_or-set_other}
use Rattle.std.proofs.lemmas.List.Elements.{All-nil, All-cons, All-head, All-tail, All-append, All-push, All-set, All-weaker}
use Rattle.gv_terms.specs.declared.term.Term.{Term}
use Rattle.gv_terms.specs.declared.var.Var.{Var}
use Rattle.gv_terms.specs.declared.sort.Sort.{Sort}
use Rattle.gv_terms.specs.declared.operator.Operator.{Operator}
use Rattle.gv_terms.specs.declared.tree.TermTree.{TermTree}
use Rattle.gv_terms.specs.declared.tree.TermTree.TheVariants as tree
use Rattle.gv_terms.specs.declared.tree.TermTree.TheOpen.{TermTree-F, Variable, Apply}
use Rattle.gv_terms.specs.declared.tree.TermTree.TheFolds.{map-TermTree, ind-TermTree}
use Rattle.gv_terms.specs.declared.tree.TermTree.TheViews.{roll-TermTree}
use Rattle.gv_terms.specs.Store.{tree_at, trees_at}
use Rattle.gv_terms.specs.Scopes.{is_among, is_closed}
use Rattle.gv_terms.proofs.Closed.{closed_variable, closed_apply}
use Rattle.gv_terms.specs.Trees.{root_of, branches_of}
use Rattle.gv_atomic.specs.Marks.{AreMarks, AreBefore, is_known}
use Rattle.gv_atomic.proofs.TreeParts.{closed_by_parts, every_closed, each_closed}
use Rattle.gv_atomic.proofs.DistinctNames.{both, parted, first_false}

-- Variables that are added.

abbrev pub More : List Var → List Var → Type 0
More vars more = (n : List ℕ) (s : Sort) → is_among vars n s ≡ true → is_among more n s ≡ true

module _ (vars more : List Var) (adds : More vars more) where
  abbrev Grows : TermTree → Type 0
  Grows t = is_closed vars t ≡ true → is_closed more t ≡ true

  each_grows : (es : List ((t : TermTree) × Grows t)) → list_all (λ b. b) (map (is_closed vars) (map (λ e. e.0) es)) ≡ true → list_all (λ b. b) (map (is_closed more) (map (λ e. e.0) es)) ≡ true
  each_grows [] h = refl
  each_grows (e ∷ es) h =
      let two = parted (is_closed vars e.0) (list_all (λ b. b) (map (is_closed vars) (map (λ e. e.0) es))) h in
      both (is_closed more e.0) (list_all (λ b. b) (map (is_closed more) (map (λ e. e.0) es))) (e.1 two.0) (each_grows es two.1)

  variable_grows : (n : List ℕ) (s : Sort) → Grows (tree.Variable n s)
  variable_grows n s e = closed_variable more n s ∙ adds n s (sym (closed_variable vars n s) ∙ e)

  apply_grows : (o : Operator) (es : List ((t : TermTree) × Grows t)) → Grows (tree.Apply o (map (λ e. e.0) es))
  apply_grows o es e = closed_apply more o (map (λ e. e.0) es) ∙ each_grows es (sym (closed_apply vars o (map (λ e. e.0) es)) ∙ e)

  layer_grows : (y : TermTree-F ((t : TermTree) × Grows t)) → Grows (roll-TermTree (map-TermTree ((t : TermTree) × Grows t) TermTree (λ e. e.0) y))
  layer_grows (Variable n s) = subst Grows (sym (tree.rolls-Variable n s)) (variable_grows n s)
  layer_grows (Apply o es) = subst Grows (sym (tree.rolls-Apply o (map (λ e. e.0) es))) (apply_grows o es)

  pub closed_more : (t : TermTree) → is_closed vars t ≡ true → is_closed more t ≡ true
  closed_more = ind-TermTree Grows (λ x y is. subst (λ z. Grows (roll-TermTree z)) is (layer_grows y))

  pub marks_more : (ts : List TermTree) (number : ℕ) (marks : List ℕ) → AreMarks ts vars number marks → AreMarks ts more number marks
  marks_more ts number marks m = record {
    long = m.long;
    within = m.within;
    closed = λ i lt e. closed_more (tree_at ts i) (m.closed i lt e);
  }

-- a scope that has seen no node
pub marks_new : (ts : List TermTree) (vars : List Var) (number : ℕ) (marks : List ℕ) → AreBefore ts number marks → AreMarks ts vars number marks
marks_new ts vars number marks m = record {
  long = m.long;
  within = All-weaker (λ k. k < number) (λ k. k ≤ number) (λ k h. omega (arith, h)) marks m.below;
  closed = λ i lt e. let h : slice_index_or marks i 0 < number = m.below i 0 (omega (arith, lt, m.long)) in absurd (omega (arith, h, e));
}

-- and the next one
pub marks_next : (ts : List TermTree) (vars : List Var) (number : ℕ) (marks : List ℕ) → AreMarks ts vars number marks → AreBefore ts (number + 1) marks
marks_next ts vars number marks m = record {
  long = m.long;
  below = All-weaker (λ k. k ≤ number) (λ k. k < number + 1) (λ k h. omega (arith, h)) marks m.within;
}

pub no_marks : (ts : List TermTree) (marks : List ℕ) → length marks ≡ length ts → All (λ m. m < 1) marks → AreBefore ts 1 marks
no_marks ts marks long zero = record {
  long = long;
  below = zero;
}

-- Terms in a list, some of them.

all_before : {X : Type 0} (P : X → Type 0) (xs ys : List X) → All P (xs ++ ys) → All P xs
all_before P [] ys h = All-nil P
all_before P (x ∷ xs) ys h = All-cons P x xs (All-head P x (xs ++ ys) h) (all_before P xs ys (All-tail P x (xs ++ ys) h))

all_behind : {X : Type 0} (P : X → Type 0) (xs ys : List X) → All P (xs ++ ys) → All P ys
all_behind P [] ys h = h
all_behind P (x ∷ xs) ys h = all_behind P xs ys (All-tail P x (xs ++ ys) h)

-- the nodes of a scope that were seen and the terms that are left: a node that was seen has its variables among
-- these where the terms left below it have theirs, and so has the root where all terms left have theirs
pub record IsOpen (ts : List TermTree) (vars : List Var) (number root : ℕ) (marks : List ℕ) (left : List Term) : Type 0 where
  pub long : length marks ≡ length ts
  pub within : All (λ m. m ≤ number) marks
  pub inside : All (λ t. t.id < length ts) left
  pub below : (i : ℕ) → i < length ts → slice_index_or marks i 0 ≡ number → All (λ t. t.id < i → is_closed vars (tree_at ts t.id) ≡ true) left → is_closed vars (tree_at ts i) ≡ true
  pub needed : is_closed vars (tree_at ts root) ≡ true → All (λ t. is_closed vars (tree_at ts t.id) ≡ true) left
  pub enough : All (λ t. is_closed vars (tree_at ts t.id) ≡ true) left → is_closed vars (tree_at ts root) ≡ true

module _ (ts : List TermTree) (vars : List Var) (number : ℕ) where
  abbrev Closed : Term → Type 0
  Closed t = is_closed vars (tree_at ts t.id) ≡ true

  abbrev Below : ℕ → Term → Type 0
  Below i t = t.id < i → is_closed vars (tree_at ts t.id) ≡ true

  pub start : (marks : List ℕ) (t : Term) (left : List Term) → left ≡ t ∷ [] → t.id < length ts → AreMarks ts vars number marks → IsOpen ts vars number t.id marks left
  start marks t left is lt m =
      subst (IsOpen ts vars number t.id marks) (sym is) (record {
        long = m.long;
        within = m.within;
        inside = All-cons (λ u. u.id < length ts) t [] lt (All-nil (λ u. u.id < length ts));
        below = λ i inside e all. m.closed i inside e;
        needed = λ e. All-cons Closed t [] e (All-nil Closed);
        enough = λ all. All-head Closed t [] all;
      })

  finish : (root : ℕ) (marks : List ℕ) → IsOpen ts vars number root marks [] → (is_closed vars (tree_at ts root) ≡ true) × AreMarks ts vars number marks
  finish root marks o = (
    o.enough (All-nil Closed),
    record {
      long = o.long;
      within = o.within;
      closed = λ i lt e. o.below i lt e (All-nil (Below i));
    },
  )

  pub finished : (root : ℕ) (marks : List ℕ) (left : List Term) → left ≡ [] → IsOpen ts vars number root marks left → (is_closed vars (tree_at ts root) ≡ true) × AreMarks ts vars number marks
  finished root marks left is o = finish root marks (subst (IsOpen ts vars number root marks) is o)

  -- the last term, and the others
  prefix : (P : Term → Type 0) (left rest : List Term) (t : Term) → left ≡ rest ++ t ∷ [] → All P left → All P rest
  prefix P left rest t is all = all_before P rest (t ∷ []) (subst (All P) is all)

  last : (P : Term → Type 0) (left rest : List Term) (t : Term) → left ≡ rest ++ t ∷ [] → All P left → P t
  last P left rest t is all = All-head P t [] (all_behind P rest (t ∷ []) (subst (All P) is all))

  behind : (P : Term → Type 0) (left rest : List Term) (t : Term) → left ≡ rest ++ t ∷ [] → All P rest → P t → All P left
  behind P left rest t is all p = subst (All P) (sym is) (All-push P rest t all p)

  pub last_inside : (root : ℕ) (marks : List ℕ) (left rest : List Term) (t : Term) → left ≡ rest ++ t ∷ [] → IsOpen ts vars number root marks left → t.id < length ts
  last_inside root marks left rest t is o = last (λ u. u.id < length ts) left rest t is o.inside

  -- a term that has been seen
  module _ (root : ℕ) (marks : List ℕ) (left rest : List Term) (t : Term) (is : left ≡ rest ++ t ∷ []) (seen : slice_index_or marks t.id 0 ≡ number) (o : IsOpen ts vars number root marks left) where
    here : t.id < length ts
    here = last_inside root marks left rest t is o

    closed_here : All (Below t.id) rest → Closed t
    closed_here all = o.below t.id here seen (behind (Below t.id) left rest t is all (λ lt. absurd (omega (arith, lt))))

    pub seen_before : IsOpen ts vars number root marks rest
    seen_before = record {
      long = o.long;
      within = o.within;
      inside = prefix (λ u. u.id < length ts) left rest t is o.inside;
      below = λ i inside e all. o.below i inside e (behind (Below i) left rest t is all (λ lt. closed_here (All-weaker (Below i) (Below t.id) (λ u h less. h (omega (arith, lt, less))) rest all)));
      needed = λ e. prefix Closed left rest t is (o.needed e);
      enough = λ all. o.enough (behind Closed left rest t is all (closed_here (All-weaker Closed (Below t.id) (λ u h less. h) rest all)));
    }

  -- a term that is seen now, whose root is known
  module _ (root : ℕ) (marks after : List ℕ) (left rest new parts : List Term) (t : Term) (is : left ≡ rest ++ t ∷ []) (set : after ≡ slice_set marks t.id number) (more : new ≡ rest ++ parts) (parted_so : trees_at ts parts ≡ branches_of (tree_at ts t.id)) (earlier : All (λ p. p.id < t.id) parts) (known : is_known vars (root_of (tree_at ts t.id)) ≡ true) (o : IsOpen ts vars number root marks left) where
    there : t.id < length ts
    there = last_inside root marks left rest t is o

    whole : All Closed parts → Closed t
    whole all =
        closed_by_parts vars (tree_at ts t.id)
        ∙ both (is_known vars (root_of (tree_at ts t.id))) (list_all (λ b. b) (map (is_closed vars) (branches_of (tree_at ts t.id)))) known
        (ap (λ us. list_all (λ b. b) (map (is_closed vars) us)) (sym parted_so) ∙ every_closed vars ts parts all)

    pieces : Closed t → All Closed parts
    pieces e =
        each_closed vars ts parts
        (ap (λ us. list_all (λ b. b) (map (is_closed vars) us)) parted_so
        ∙ (parted (is_known vars (root_of (tree_at ts t.id))) (list_all (λ b. b) (map (is_closed vars) (branches_of (tree_at ts t.id)))) (sym (closed_by_parts vars (tree_at ts t.id)) ∙ e)).1)

    closed_under : (i : ℕ) → t.id < i ⊎ (t.id ≡ i) → All (Below i) parts → Closed t
    closed_under i at all = whole (λ k d lt. all k d lt (smaller at (earlier k d lt)))
      where
        smaller : {p : Term} → t.id < i ⊎ (t.id ≡ i) → p.id < t.id → p.id < i
        smaller (inl less) h = omega (arith, less, h)
        smaller (inr e) h = omega (arith, e, h)

    marked_now : (i : ℕ) → i < length ts → slice_index_or after i 0 ≡ number → All (Below i) (rest ++ parts) → is_closed vars (tree_at ts i) ≡ true
    marked_now i inside e all = by (cases_eq i t.id)
      where
        halves : (All (Below i) rest) × (All (Below i) parts)
        halves = (all_before (Below i) rest parts all, all_behind (Below i) rest parts all)

        by : (i ≡ t.id) ⊎ (i ≢ t.id) → is_closed vars (tree_at ts i) ≡ true
        by (inl f) = subst (λ j. is_closed vars (tree_at ts j) ≡ true) (sym f) (closed_under i (inr (sym f)) halves.1)
        by (inr f) =
            o.below i inside (sym (ap (λ ms. slice_index_or ms i 0) set ∙ get_or-set_other marks t.id i number 0 f) ∙ e)
            (behind (Below i) left rest t is halves.0 (λ lt. closed_under i (inl lt) halves.1))

    pub seen_now : IsOpen ts vars number root after new
    seen_now = subst (IsOpen ts vars number root after) (sym more) (record {
      long = ap length set ∙ length-set marks t.id number ∙ o.long;
      within = subst (All (λ m. m ≤ number)) (sym set) (All-set (λ m. m ≤ number) marks t.id number (omega arith) o.within);
      inside = All-append (λ u. u.id < length ts) rest parts (prefix (λ u. u.id < length ts) left rest t is o.inside) (All-weaker (λ u. u.id < t.id) (λ u. u.id < length ts) (λ u h. omega (arith, h, there)) parts earlier);
      below = marked_now;
      needed = λ e. All-append Closed rest parts (prefix Closed left rest t is (o.needed e)) (pieces (last Closed left rest t is (o.needed e)));
      enough = λ all. o.enough (behind Closed left rest t is (all_before Closed rest parts all) (whole (all_behind Closed rest parts all)));
    })

  -- a term whose root is not known
  pub not_closed : (root : ℕ) (marks : List ℕ) (left rest : List Term) (t : Term) → left ≡ rest ++ t ∷ [] → is_known vars (root_of (tree_at ts t.id)) ≡ false → IsOpen ts vars number root marks left → is_closed vars (tree_at ts root) ≡ false
  not_closed root marks left rest t is unknown o = by (is_closed vars (tree_at ts root)) refl
    where
      open_here : is_closed vars (tree_at ts t.id) ≡ false
      open_here = closed_by_parts vars (tree_at ts t.id) ∙ first_false (is_known vars (root_of (tree_at ts t.id))) (list_all (λ b. b) (map (is_closed vars) (branches_of (tree_at ts t.id)))) unknown

      by : (b : Bool) → is_closed vars (tree_at ts root) ≡ b → b ≡ false
      by true e = let f : is_closed vars (tree_at ts t.id) ≡ true = last Closed left rest t is (o.needed e) in let g : is_closed vars (tree_at ts t.id) ≡ false = open_here in absurd cc
      by false e = refl
