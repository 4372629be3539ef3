-- Which nodes wait to be valued, while they are collected.
use Rattle.std.proofs.Common.{◌≡◌, ◌≢◌, ℕ, zero, suc, ◌+◌, ◌<◌, ◌≤◌, ◌↔◌, ◌⊎◌, inl, inr, ⊎_elim, List, [], ◌∷◌, ◌++◌, Bool, true, false, length, get_or, Option, Some, None, IsSome, is_some, refl, sym, ap, ◌∙◌, subst, arith, rules}
use Rattle.std.specs.Prelude.{Contains}
use Rattle.std.specs.List.{All}
use Rattle.std.specs.BTreeMap as tree
use Rattle.std.specs.BTreeMap.{is_at, BTreeMap}
use Rattle.std.specs.Map.{lookup}
use Rattle.std.specs.Cmp.{nat_cmp_is}
use Rattle.std.specs.Ordering.{nat_cmp, is_eq, is_lt}
use Rattle.std.specs.declared.cmp.Ordering.TheVariants.{Less, Equal, Greater}
use Rattle.std.proofs.lemmas.Bool.{cases_eq, cases_lt}
use Rattle.std.proofs.lemmas.List.{get_or_default}
use Rattle.std.proofs.lemmas.List.Elements.{All-nil, All-cons, All-tail, All-push, Contains-append_left, Contains-push, Contains-push_cases}
use Rattle.gv_terms.specs.declared.plan.Step.{Step}
use Rattle.gv_terms.specs.declared.term.Term.{Term}
use Rattle.gv_terms.specs.declared.stored.Stored.{Stored}
use Rattle.gv_terms.specs.Evaluation.{parts_at, some_node, step, Descends, IsUser, HasSource, AreSupplied, Await}

-- A list of steps.

pub descends_push : (ss : List Step) (x : Step) → Descends ss → All (λ s. x.node < s.node) ss → Descends (ss ++ x ∷ [])
descends_push [] x down above = (All-nil (λ r. r.node < x.node), tt)
descends_push (s ∷ ss) x down above =
    (All-push (λ r. r.node < s.node) ss x down.0 (above 0 s (omega arith)), descends_push ss x down.1 (All-tail (λ r. x.node < r.node) s ss above))

pub all_first : {X : Type 0} (P : X → Type 0) (xs : List X) (y : X) → All P (xs ++ y ∷ []) → All P xs
all_first P [] y all = All-nil P
all_first P (x ∷ xs) y all = All-cons P x xs (all 0 x (omega arith)) (all_first P xs y (All-tail P x (xs ++ y ∷ []) all))

pub all_last : {X : Type 0} (P : X → Type 0) (xs : List X) (y : X) → All P (xs ++ y ∷ []) → P y
all_last P [] y all = all 0 y (omega arith)
all_last P (x ∷ xs) y all = all_last P xs y (All-tail P x (xs ++ y ∷ []) all)

pub descends_first : (ss : List Step) (x : Step) → Descends (ss ++ x ∷ []) → Descends ss
descends_first [] x down = tt
descends_first (s ∷ ss) x down = (all_first (λ r. r.node < s.node) ss x down.0, descends_first ss x down.1)

-- the last is below the others
pub last_below : (ss : List Step) (x : Step) → Descends (ss ++ x ∷ []) → All (λ s. x.node < s.node) ss
last_below [] x down = All-nil (λ s. x.node < s.node)
last_below (s ∷ ss) x down = All-cons (λ r. x.node < r.node) s ss (all_last (λ r. r.node < s.node) ss x down.0) (last_below ss x down.1)

-- the lowest node so far
abbrev pub lowest : ℕ → List Step → ℕ
lowest d [] = d
lowest d (s ∷ ss) = lowest s.node ss

pub lowest_push : (d : ℕ) (ss : List Step) (x : Step) → lowest d (ss ++ x ∷ []) ≡ x.node
lowest_push d [] x = refl
lowest_push d (s ∷ ss) x = lowest_push s.node ss x

-- what holds while nodes are collected
pub record IsPlanned (ns : List Stored) (root : ℕ) (ss : List Step) (f : ℕ → Option ℕ) : Type 0 where
  pub supplied : AreSupplied ns root ss f
  pub descends : Descends ss
  pub below : All (λ s. s.node < root) ss
  pub floor : All (λ s. lowest root ss ≤ s.node) ss
  pub root_floor : lowest root ss ≤ root
  pub inside : (q l : ℕ) → f q ≡ Some l → q < lowest root ss
  pub later : (q l r m : ℕ) → f q ≡ Some l → f r ≡ Some m → q < m

some_of : (o : Option ℕ) → IsSome o → (m : ℕ) × (o ≡ Some m)
some_of None h = absurd (search rules)
some_of (Some m) h = (m, refl)

same_value : (o : Option ℕ) (l m : ℕ) → o ≡ Some l → o ≡ Some m → l ≡ m
same_value o l m e f = cc

no_step : (x : Step) → Contains [] x → ⊥
no_step x c = absurd (omega (arith, c.1))

-- before the first step the parts of the root wait
pub planned_first : (ns : List Stored) (root : ℕ) (old f : ℕ → Option ℕ) → ((q : ℕ) → old q ≡ None) → Await root (parts_at ns root) old f → IsPlanned ns root [] f
planned_first ns root old f none await = record {
  supplied = λ u user. ⊎_elim (λ (e : u ≡ root). subst (λ v. All (λ p. HasSource [] f v p.id) (parts_at ns v)) (sym e) root_supplied) (λ (c : (l : ℕ) × Contains [] (step u l)). absurd (no_step (step u c.0) c.1)) user;
  descends = tt;
  below = All-nil (λ s. s.node < root);
  floor = All-nil (λ s. root ≤ s.node);
  root_floor = omega arith;
  inside = λ q l e. (told q l e).1;
  later = λ q l r m e g. let one = told q l e in let two = told r m g in subst (λ k. q < k) (sym two.0) one.1;
}
  where
    told : (q l : ℕ) → f q ≡ Some l → (l ≡ root) × (q < root)
    told q l e = ⊎_elim (λ (h : old q ≡ Some l). let n = none q in absurd cc) (λ (h : (l ≡ root) × (q < root)). h) (await.only q l e)

    root_supplied : All (λ p. HasSource [] f root p.id) (parts_at ns root)
    root_supplied k d lt =
        let some = some_of (f (get_or (parts_at ns root) k d).id) (await.there k d lt) in
        let is = told (get_or (parts_at ns root) k d).id some.0 some.1 in
        (some.0, omega (arith, is.0), inl some.1)

-- one node more is collected: the highest that waits
module _ (ns : List Stored) (root : ℕ) (ss : List Step) (f g h : ℕ → Option ℕ) (n l : ℕ) (plan : IsPlanned ns root ss f) (here : f n ≡ Some l) (greatest : (q m : ℕ) → f q ≡ Some m → q ≤ n) (gone : g n ≡ None) (others : (q : ℕ) → q ≢ n → g q ≡ f q) (await : Await n (parts_at ns n) g h) where
  still : (q m : ℕ) → g q ≡ Some m → (f q ≡ Some m) × (q < n)
  still q m e =
      ⊎_elim
      (λ (same : q ≡ n). let none = ap g same ∙ gone in absurd cc)
      (λ (apart : q ≢ n).
      let was : f q ≡ Some m = sym (others q apart) ∙ e in
      (was, strictly q (greatest q m was) apart))
      (cases_eq q n)
    where
      strictly : (k : ℕ) → k ≤ n → k ≢ n → k < n
      strictly k le ne = omega (arith, le, ne)

  waits : (q m : ℕ) → h q ≡ Some m → (q < n) × (n ≤ m)
  waits q m e =
      ⊎_elim
      (λ (was : g q ≡ Some m). let old = still q m was in (old.1, (let lt : n < m = plan.later n l q m here old.0 in omega (arith, lt))))
      (λ (new : (m ≡ n) × (q < n)). (new.1, omega (arith, new.0)))
      (await.only q m e)

  above : All (λ s. n < s.node) ss
  above k d lt = let one = plan.inside n l here in let two = plan.floor k d lt in omega (arith, one, two)

  moved : (u p : ℕ) → HasSource ss f u p → HasSource (ss ++ step n l ∷ []) h u p
  moved u p source = (source.0, source.1, ⊎_elim (λ (waiting : f p ≡ Some source.0). from_waiting waiting) (λ (c : Contains ss (step p source.0)). inr (Contains-append_left ss (step n l ∷ []) (step p source.0) c)) source.2)
    where
      from_waiting : f p ≡ Some source.0 → (h p ≡ Some source.0) ⊎ Contains (ss ++ step n l ∷ []) (step p source.0)
      from_waiting e =
          ⊎_elim
          (λ (same : p ≡ n).
          let value : l ≡ source.0 = same_value (f n) l source.0 here (ap f (sym same) ∙ e) in
          let is : step n l ≡ step p source.0 = ap (λ k. step k l) (sym same) ∙ ap (step p) value in
          inr (subst (Contains (ss ++ step n l ∷ [])) is (Contains-push ss (step n l))))
          (λ (apart : p ≢ n). inl (await.kept p source.0 (others p apart ∙ e)))
          (cases_eq p n)

  own : All (λ p. HasSource (ss ++ step n l ∷ []) h n p.id) (parts_at ns n)
  own k d lt =
      let some = some_of (h (get_or (parts_at ns n) k d).id) (await.there k d lt) in
      (some.0, (waits (get_or (parts_at ns n) k d).id some.0 some.1).1, inl some.1)

  old_user : (u : ℕ) → IsUser root ss u → All (λ p. HasSource (ss ++ step n l ∷ []) h u p.id) (parts_at ns u)
  old_user u user k d lt = moved u (get_or (parts_at ns u) k d).id (plan.supplied u user k d lt)

  supplied_more : AreSupplied ns root (ss ++ step n l ∷ []) h
  supplied_more u user =
      ⊎_elim
      (λ (e : u ≡ root). old_user u (inl e))
      (λ (c : (m : ℕ) × Contains (ss ++ step n l ∷ []) (step u m)).
      ⊎_elim
      (λ (old : Contains ss (step u c.0)). old_user u (inr (c.0, old)))
      (λ (new : step n l ≡ step u c.0). subst (λ v. All (λ p. HasSource (ss ++ step n l ∷ []) h v p.id) (parts_at ns v)) (ap (λ s. s.node) new) own)
      (Contains-push_cases ss (step n l) (step u c.0) c.1))
      user

  pub planned_more : IsPlanned ns root (ss ++ step n l ∷ []) h
  planned_more =
      let low : lowest root (ss ++ step n l ∷ []) ≡ n = lowest_push root ss (step n l) in
      let under : n < root = (let one = plan.inside n l here in let two = plan.root_floor in omega (arith, one, two)) in
      record {
        supplied = supplied_more;
        descends = descends_push ss (step n l) plan.descends above;
        below = All-push (λ s. s.node < root) ss (step n l) plan.below under;
        floor = subst (λ k. All (λ s. k ≤ s.node) (ss ++ step n l ∷ [])) (sym low) (All-push (λ s. n ≤ s.node) ss (step n l) (λ k d lt. let a = above k d lt in omega (arith, a)) (omega arith));
        root_floor = subst (λ k. k ≤ root) (sym low) (omega (arith, under));
        inside = λ q m e. subst (λ k. q < k) (sym low) (waits q m e).0;
        later = λ q a r m e e'. let one = (waits q a e).0 in let two = (waits r m e').1 in omega (arith, one, two);
      }

-- when none waits any more
pub planned_last : (ns : List Stored) (root : ℕ) (ss : List Step) (f : ℕ → Option ℕ) → IsPlanned ns root ss f → ((q : ℕ) → f q ≡ None) → AreSupplied ns root ss (λ _. None)
planned_last ns root ss f plan none u user k d lt =
    let source = plan.supplied u user k d lt in
    (source.0, source.1, ⊎_elim (λ (e : f (get_or (parts_at ns u) k d).id ≡ Some source.0). let n = none (get_or (parts_at ns u) k d).id in absurd cc) (λ (c : Contains ss (step (get_or (parts_at ns u) k d).id source.0)). inr c) source.2)

-- Numbers as keys.

pub at_other : (k q : ℕ) → q ≢ k → is_at (nat_cmp k) q ≡ false
at_other k q apart =
    ⊎_elim
    (λ (less : k < q). ap is_eq (sym (nat_cmp_is k q Less less)))
    (λ (le : q ≤ k). ap is_eq (sym (nat_cmp_is k q Greater (strictly le))))
    (cases_lt k q)
  where
    strictly : q ≤ k → q < k
    strictly le = omega (arith, le, apart)

pub at_same : (k : ℕ) → is_at (nat_cmp k) k ≡ true
at_same k = ap is_eq (sym (nat_cmp_is k k Equal refl))

-- one part more waits

abbrev pub Keeps : (ℕ → Option ℕ) → (ℕ → Option ℕ) → Type 0
Keeps old new = (q l : ℕ) → old q ≡ Some l → new q ≡ Some l

abbrev pub Only : ℕ → (ℕ → Option ℕ) → (ℕ → Option ℕ) → Type 0
Only n old new = (q l : ℕ) → new q ≡ Some l → (old q ≡ Some l) ⊎ ((l ≡ n) × (q < n))

pub kept_more : (old f g : ℕ → Option ℕ) (p : ℕ) → Keeps old f → f p ≡ None → ((q : ℕ) → q ≢ p → g q ≡ f q) → Keeps old g
kept_more old f g p kept none others q l e =
    ⊎_elim
    (λ (same : q ≡ p). let was = kept q l e in let n = ap f same ∙ none in absurd cc)
    (λ (apart : q ≢ p). others q apart ∙ kept q l e)
    (cases_eq q p)

pub only_more : (n : ℕ) (old f g : ℕ → Option ℕ) (p : ℕ) → p < n → Only n old f → g p ≡ Some n → ((q : ℕ) → q ≢ p → g q ≡ f q) → Only n old g
only_more n old f g p low only here others q l e =
    ⊎_elim
    (λ (same : q ≡ p).
    let there : g q ≡ Some n = ap g same ∙ here in
    let value : l ≡ n = same_value (g q) l n e there in
    let lt : q < n = subst (λ k. k < n) (sym same) low in
    inr (value, lt))
    (λ (apart : q ≢ p). only q l (sym (others q apart) ∙ e))
    (cases_eq q p)

pub some_more : (n : ℕ) (f g : ℕ → Option ℕ) (p : ℕ) → g p ≡ Some n → ((q : ℕ) → q ≢ p → g q ≡ f q) → (q : ℕ) → IsSome (f q) → IsSome (g q)
some_more n f g p here others q some =
    ⊎_elim
    (λ (same : q ≡ p). subst (λ o. IsSome o) (sym (ap g same ∙ here)) (search rules))
    (λ (apart : q ≢ p). subst (λ o. IsSome o) (sym (others q apart)) some)
    (cases_eq q p)

-- What the calls of a map say.

pub none_there : (o : Option ℕ) (r : Bool) → r ≡ is_some o → r ≡ false → o ≡ None
none_there None r e f = refl
none_there (Some l) r e f = absurd cc

pub some_there : (o : Option ℕ) (r : Bool) → r ≡ is_some o → r ≡ true → IsSome o
some_there None r e f = absurd cc
some_there (Some l) r e f = search rules

pub parts_read : (ns : List Stored) (k : ℕ) (n : Stored) → k < length ns → (get_or ns k n).parts ≡ parts_at ns k
parts_read ns k n lt = ap (λ m. m.parts) (get_or_default ns k n some_node lt)

-- the parts so far, and one more
pub there_more : (f g : ℕ → Option ℕ) (ps : List Term) (i : ℕ) → ((q : ℕ) → IsSome (f q) → IsSome (g q)) → ((k : ℕ) (d : Term) → k < i → IsSome (f (get_or ps k d).id)) → ((d : Term) → IsSome (g (get_or ps i d).id)) → (k : ℕ) (d : Term) → k < i + 1 → IsSome (g (get_or ps k d).id)
there_more f g ps i on before here k d lt =
    ⊎_elim
    (λ (low : k < i). on (get_or ps k d).id (before k d low))
    (λ (le : i ≤ k). at_i k (omega (arith, le, lt)))
    (cases_lt k i)
  where
    at_i : (j : ℕ) → i ≡ j → IsSome (g (get_or ps j d).id)
    at_i j e = subst (λ h. IsSome (g (get_or ps h d).id)) e (here d)

pub not_above : (n q : ℕ) → is_lt (nat_cmp n q) ≡ false → q ≤ n
not_above n q e =
    ⊎_elim
    (λ (less : n < q). let is : is_lt (nat_cmp n q) ≡ true = ap is_lt (sym (nat_cmp_is n q Less less)) in absurd cc)
    (λ (le : q ≤ n). le)
    (cases_lt n q)

-- some of the parts of a node wait now
pub record Awaiting (n : ℕ) (old new : ℕ → Option ℕ) (ps : List Term) (i : ℕ) : Type 0 where
  pub kept : Keeps old new
  pub only : Only n old new
  pub there : (k : ℕ) (d : Term) → k < i → IsSome (new (get_or ps k d).id)

pub awaiting_more : (n : ℕ) (old f g : ℕ → Option ℕ) (ps : List Term) (i : ℕ) (p : Term) → i < length ps → Awaiting n old f ps i → f (get_or ps i p).id ≡ None → g (get_or ps i p).id ≡ Some n → ((q : ℕ) → q ≢ (get_or ps i p).id → g q ≡ f q) → (get_or ps i p).id < n → Awaiting n old g ps (i + 1)
awaiting_more n old f g ps i p lt so none here others low = record {
  kept = kept_more old f g (get_or ps i p).id so.kept none others;
  only = only_more n old f g (get_or ps i p).id low so.only here others;
  there = there_more f g ps i (some_more n f g (get_or ps i p).id here others) so.there
      (λ d. subst (λ o. IsSome o) (sym (ap (λ t. g t.id) (get_or_default ps i d p lt) ∙ here)) (search rules));
}

pub awaiting_same : (n : ℕ) (old f : ℕ → Option ℕ) (ps : List Term) (i : ℕ) (p : Term) → i < length ps → Awaiting n old f ps i → IsSome (f (get_or ps i p).id) → Awaiting n old f ps (i + 1)
awaiting_same n old f ps i p lt so some = record {
  kept = so.kept;
  only = so.only;
  there = there_more f f ps i (λ q h. h) so.there (λ d. subst (λ t. IsSome (f t.id)) (get_or_default ps i p d lt) some);
}

-- Maps that hold nothing.

pub empty_map : {X : Type 0} (m : BTreeMap ℕ X) (q : ℕ) → tree.IsEmpty m → tree.get nat_cmp m q ≡ None
empty_map m q e = ap (lookup (is_at (nat_cmp q))) e

pub some_is : (o : Option ℕ) (m : ℕ) → o ≡ Some m → IsSome o
some_is None m e = absurd cc
some_is (Some l) m e = search rules

nothing_at : {X : Type 0} (es : List (ℕ × X)) (q : ℕ) → length es ≡ 0 → lookup (is_at (nat_cmp q)) es ≡ None
nothing_at [] q e = refl
nothing_at (d ∷ es) q e = absurd (omega arith)

not_some : {X : Type 0} (o : Option X) → o ≡ None → IsSome o → ⊥
not_some None e h = search rules
not_some (Some x) e h = absurd cc

no_length : (n : ℕ) → (0 < n → ⊥) → n ≡ 0
no_length zero h = refl
no_length (suc n) h = absurd (h (omega arith))

pub none_left : {X : Type 0} (m : BTreeMap ℕ X) (popped : Option (ℕ × X)) → popped ≡ None → (IsSome popped ↔ (0 < length m.entries)) → (q : ℕ) → tree.get nat_cmp m q ≡ None
none_left m popped e iff q = nothing_at m.entries q (no_length (length m.entries) (λ lt. not_some popped e (iff.1 lt)))

-- a list from which nothing is popped
pub nothing_left : {X : Type 0} (xs ys : List X) (popped : Option X) → (IsSome popped ↔ (0 < length xs)) → popped ≡ None → xs ≡ []
nothing_left [] ys popped iff e = refl
nothing_left (x ∷ xs) ys popped iff e = absurd (not_some popped e (iff.1 (omega arith)))

pub parts_here : (ns : List Stored) (k : ℕ) (n : Stored) → k < length ns → n ≡ get_or ns k n → parts_at ns k ≡ n.parts
parts_here ns k n lt is = sym (parts_read ns k n lt) ∙ ap (λ m. m.parts) (sym is)
