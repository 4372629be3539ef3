-- Which values are kept, while nodes are valued.
use Rattle.std.proofs.Common.{◌≡◌, ◌≢◌, ℕ, suc, ◌<◌, ◌⊎◌, inl, inr, ⊎_elim, List, [], ◌∷◌, ◌++◌, length, get_or, map, Option, Some, None, IsSome, option_map, refl, sym, ap, ◌∙◌, subst, arith, rules}
use Rattle.std.specs.Prelude.{Contains}
use Rattle.std.specs.BTreeMap as tree
use Rattle.std.specs.BTreeMap.{BTreeMap}
use Rattle.std.specs.List.{All}
use Rattle.std.specs.Option.{unwrap_or, option_to_list}
use Rattle.std.specs.Ordering.{nat_cmp}
use Rattle.std.proofs.lemmas.Bool.{cases_eq}
use Rattle.std.proofs.lemmas.List.Elements.{Contains-append_left, Contains-push, Contains-push_cases}
use Rattle.gv_terms.specs.declared.plan.Step.{Step}
use Rattle.gv_terms.specs.declared.live.Kept.{Kept}
use Rattle.gv_terms.specs.declared.term.Term.{Term}
use Rattle.gv_terms.specs.declared.stored.Stored.{Stored}
use Rattle.gv_terms.specs.declared.tree.TermTree.{TermTree}
use Rattle.gv_terms.specs.declared.value.Value.{Value}
use Rattle.gv_terms.specs.declared.value.Value.TheVariants as val
use Rattle.gv_terms.specs.declared.value.Env.{Env}
use Rattle.gv_terms.specs.Trees.{value_under}
use Rattle.gv_terms.specs.Store.{tree_at, trees_at, trees_of, AreSound}
use Rattle.gv_terms.specs.Evaluation.{parts_at, step, Descends, IsUser, HasSource, AreSupplied, readers, held, held_all, AreHeld, Loses, AreRight}
use Rattle.gv_terms.proofs.Planned.{all_first, all_last, descends_first, last_below, parts_here}
use Rattle.gv_terms.proofs.Valued.{sound_node}

abbrev kept_at : BTreeMap ℕ Kept → ℕ → Option Kept
kept_at m q = tree.get nat_cmp m q

-- what holds while nodes are valued
pub record IsLive (ns : List Stored) (root : ℕ) (env : Env) (ts : List TermTree) (ss : List Step) (m : BTreeMap ℕ Kept) : Type 0 where
  pub supplied : AreSupplied ns root ss (readers m)
  pub descends : Descends ss
  pub below : All (λ s. s.node < root) ss
  pub older : (q l : ℕ) → readers m q ≡ Some l → All (λ s. q < s.node) ss
  pub right : AreRight env ts m

-- at first nothing is kept
pub live_first : (ns : List Stored) (root : ℕ) (env : Env) (ts : List TermTree) (ss : List Step) (m : BTreeMap ℕ Kept) → ((q : ℕ) → kept_at m q ≡ None) → AreSupplied ns root ss (λ _. None) → Descends ss → All (λ s. s.node < root) ss → IsLive ns root env ts ss m
live_first ns root env ts ss m none supplied descends below = record {
  supplied = λ u user k d lt.
      let source = supplied u user k d lt in
      (source.0, source.1, ⊎_elim (λ e. absurd cc) (λ (c : Contains ss (step (get_or (parts_at ns u) k d).id source.0)). inr c) source.2);
  descends = descends;
  below = below;
  older = λ q l e. let n = none q in let f : readers m q ≡ None = ap (option_map (λ x. x.last)) n in absurd cc;
  right = λ q e is. let n = none q in absurd cc;
}

is_kept : (o : Option Kept) (l : ℕ) → option_map (λ x. x.last) o ≡ Some l → IsSome o
is_kept None l e = absurd cc
is_kept (Some x) l e = search rules

no_step : (x : Step) → Contains [] x → ⊥
no_step x c = absurd (omega (arith, c.1))

-- in the end all that the root reads is kept
pub root_held : (ns : List Stored) (root : ℕ) (env : Env) (ts : List TermTree) (m : BTreeMap ℕ Kept) → IsLive ns root env ts [] m → AreHeld m (parts_at ns root)
root_held ns root env ts m live k d lt =
    let source = live.supplied root (inl refl) k d lt in
    ⊎_elim
    (λ (e : readers m (get_or (parts_at ns root) k d).id ≡ Some source.0). is_kept (kept_at m (get_or (parts_at ns root) k d).id) source.0 e)
    (λ (c : Contains [] (step (get_or (parts_at ns root) k d).id source.0)). absurd (no_step _ c))
    source.2

module _ (ns : List Stored) (root : ℕ) (env : Env) (ts : List TermTree) (ss : List Step) (n l : ℕ) (m : BTreeMap ℕ Kept) (live : IsLive ns root env ts (ss ++ step n l ∷ []) m) where
  others_above : All (λ s. n < s.node) ss
  others_above = last_below ss (step n l) live.descends

  contained : (k u : ℕ) → Contains ss (step u k) → n < u
  contained k u c = let h = others_above c.0 (step u k) c.1 in subst (λ s. n < s.node) c.2 h

  pub under_root : n < root
  under_root = all_last (λ s. s.node < root) ss (step n l) live.below

  user_above : (u : ℕ) → IsUser root ss u → n < u
  user_above u user =
      ⊎_elim
      (λ (e : u ≡ root). omega (arith, e, under_root))
      (λ (c : (k : ℕ) × Contains ss (step u k)). contained c.0 u c.1)
      user

  -- what the next node reads is kept
  pub node_held : All (λ p. p.id < n) (parts_at ns n) → AreHeld m (parts_at ns n)
  node_held within k d lt =
      let source = live.supplied n (inr (l, Contains-push ss (step n l))) k d lt in
      let low = within k d lt in
      ⊎_elim
      (λ (e : readers m (get_or (parts_at ns n) k d).id ≡ Some source.0). is_kept (kept_at m (get_or (parts_at ns n) k d).id) source.0 e)
      (λ (c : Contains (ss ++ step n l ∷ []) (step (get_or (parts_at ns n) k d).id source.0)). absurd (not_there (get_or (parts_at ns n) k d).id source.0 low c))
      source.2
    where
      not_there : (p r : ℕ) → p < n → Contains (ss ++ step n l ∷ []) (step p r) → ⊥
      not_there p r low c =
          ⊎_elim
          (λ (old : Contains ss (step p r)). let high = user_above p (inr (r, old)) in absurd (omega (arith, low, high)))
          (λ (new : step n l ≡ step p r). let same = ap (λ s. s.node) new in absurd (omega (arith, low, same)))
          (Contains-push_cases ss (step n l) (step p r) c)

  -- after it is valued, and what it reads last is given up
  module _ (lost new : BTreeMap ℕ Kept) (v : Value) (loses : Loses n m lost) (here : kept_at new n ≡ Some (record { value = v; last = l })) (others : (q : ℕ) → q ≢ n → kept_at new q ≡ kept_at lost q) (is : v ≡ value_under env (tree_at ts n)) where
    last_of : Option Kept → Option ℕ
    last_of o = option_map (λ x. x.last) o

    -- what is kept now was kept before
    was_kept : (q : ℕ) (e : Kept) → q ≢ n → kept_at new q ≡ Some e → kept_at m q ≡ Some e
    was_kept q e apart now =
        ⊎_elim
        (λ (same : kept_at lost q ≡ kept_at m q). sym same ∙ sym (others q apart) ∙ now)
        (λ (gone : (kept_at lost q ≡ None) × (readers m q ≡ Some n)). let o = others q apart in let g = gone.0 in absurd cc)
        (loses q)

    moved : (u p : ℕ) → IsUser root ss u → HasSource (ss ++ step n l ∷ []) (readers m) u p → HasSource ss (readers new) u p
    moved u p user source = (source.0, source.1, ⊎_elim from_kept from_step source.2)
      where
        high : n < u
        high = user_above u user

        from_kept : readers m p ≡ Some source.0 → (readers new p ≡ Some source.0) ⊎ Contains ss (step p source.0)
        from_kept e =
            ⊎_elim
            (λ (same : p ≡ n). let lt : p < n = all_last (λ s. p < s.node) ss (step n l) (live.older p source.0 e) in absurd (omega (arith, lt, same)))
            (λ (apart : p ≢ n). ⊎_elim
            (λ (same : kept_at lost p ≡ kept_at m p). inl (ap (option_map (λ x. x.last)) (others p apart ∙ same) ∙ e))
            (λ (gone : (kept_at lost p ≡ None) × (readers m p ≡ Some n)). let same : source.0 ≡ n = cc in let le = source.1 in absurd (omega (arith, same, le, high)))
            (loses p))
            (cases_eq p n)

        from_step : Contains (ss ++ step n l ∷ []) (step p source.0) → (readers new p ≡ Some source.0) ⊎ Contains ss (step p source.0)
        from_step c =
            ⊎_elim
            (λ (old : Contains ss (step p source.0)). inr old)
            (λ (e : step n l ≡ step p source.0).
            inl (ap (readers new) (sym (ap (λ s. s.node) e)) ∙ ap (option_map (λ x. x.last)) here ∙ ap Some (ap (λ s. s.last) e)))
            (Contains-push_cases ss (step n l) (step p source.0) c)

    some_kept : (o : Option Kept) (q : ℕ) → option_map (λ x. x.last) o ≡ Some q → (e : Kept) × (o ≡ Some e) × (e.last ≡ q)
    some_kept None q e = absurd cc
    some_kept (Some x) q e = (x, refl, cc)

    pub live_more : IsLive ns root env ts ss new
    live_more = record {
      supplied = λ u user k d lt. moved u (get_or (parts_at ns u) k d).id user (live.supplied u (still_user u user) k d lt);
      descends = descends_first ss (step n l) live.descends;
      below = all_first (λ s. s.node < root) ss (step n l) live.below;
      older = λ q r e. ⊎_elim
          (λ (same : q ≡ n). subst (λ j. All (λ s. j < s.node) ss) (sym same) others_above)
          (λ (apart : q ≢ n).
          let x = some_kept (kept_at new q) r e in
          let was = was_kept q x.0 apart x.1 in
          all_first (λ s. q < s.node) ss (step n l) (live.older q r (ap (option_map (λ y. y.last)) was ∙ ap Some x.2)))
          (cases_eq q n);
      right = λ q e now. ⊎_elim
          (λ (same : q ≡ n).
          let there : Some e ≡ Some (record { value = v; last = l }) = sym now ∙ ap (kept_at new) same ∙ here in
          let value : e.value ≡ v = of_some e (record { value = v; last = l }) there in
          value ∙ is ∙ ap (λ j. value_under env (tree_at ts j)) (sym same))
          (λ (apart : q ≢ n). live.right q e (was_kept q e apart now))
          (cases_eq q n);
    }
      where
        of_some : (x y : Kept) → Some x ≡ Some y → x.value ≡ y.value
        of_some x y e = let f : x ≡ y = cc in ap (λ z. z.value) f

        still_user : (u : ℕ) → IsUser root ss u → IsUser root (ss ++ step n l ∷ []) u
        still_user u user = ⊎_elim (λ (e : u ≡ root). inl e) (λ (c : (k : ℕ) × Contains ss (step u k)). inr (c.0, Contains-append_left ss (step n l ∷ []) (step u c.0) c.1)) user

-- the values that are kept of the parts of a node
value_kept : (o : Option Kept) → IsSome o → (e : Kept) × (o ≡ Some e)
value_kept None h = absurd (search rules)
value_kept (Some e) h = (e, refl)

pub parts_valued : (env : Env) (ts : List TermTree) (m : BTreeMap ℕ Kept) (ps : List Term) → AreRight env ts m → AreHeld m ps → held_all m ps ≡ map (value_under env) (trees_at ts ps)
parts_valued env ts m [] right there = refl
parts_valued env ts m (p ∷ ps) right there =
    let e = value_kept (kept_at m p.id) (there 0 p (omega arith)) in
    let first : held m p.id ≡ value_under env (tree_at ts p.id) = ap (λ o. unwrap_or (option_map (λ x. x.value) o) val.Unit) e.1 ∙ right p.id e.0 e.1 in
    let others = parts_valued env ts m ps right (λ k d lt. there (suc k) d (omega arith)) in
    cc

pub one_held : (m : BTreeMap ℕ Kept) (ps : List Term) (d : Term) (v : Value) → length ps ≡ 1 → v ≡ held m (get_or ps 0 d).id → v ∷ [] ≡ held_all m ps
one_held m [] d v e is = absurd (omega arith)
one_held m (p ∷ []) d v e is = ap (λ x. x ∷ []) is
one_held m (p ∷ q ∷ ps) d v e is = absurd (omega arith)

pub two_held : (m : BTreeMap ℕ Kept) (ps : List Term) (d e : Term) (v w : Value) → length ps ≡ 2 → v ≡ held m (get_or ps 0 d).id → w ≡ held m (get_or ps 1 e).id → v ∷ w ∷ [] ≡ held_all m ps
two_held m [] d e v w long is too = absurd (omega arith)
two_held m (p ∷ []) d e v w long is too = absurd (omega arith)
two_held m (p ∷ q ∷ []) d e v w long is too = ap (λ x. x ∷ w ∷ []) is ∙ ap (λ x. held m p.id ∷ x ∷ []) too
two_held m (p ∷ q ∷ r ∷ ps) d e v w long is too = absurd (omega arith)

-- what a node reads is kept

pub node_parts : (ns : List Stored) (root : ℕ) (env : Env) (ss : List Step) (n l : ℕ) (m : BTreeMap ℕ Kept) (node : Stored) → root < length ns → AreSound ns → node ≡ get_or ns n node → IsLive ns root env (trees_of ns) (ss ++ step n l ∷ []) m → AreHeld m node.parts
node_parts ns root env ss n l m node within sound is live =
    let below = under_root ns root env (trees_of ns) ss n l m live in
    let inside : n < length ns = omega (arith, below, within) in
    let here = sound_node ns sound n node inside is in
    let parts = parts_here ns n node inside is in
    subst (AreHeld m) parts (node_held ns root env (trees_of ns) ss n l m live (subst (λ ps. All (λ p. p.id < n) ps) (sym parts) here.earlier))

pub root_parts : (ns : List Stored) (root : ℕ) (env : Env) (ss : List Step) (m : BTreeMap ℕ Kept) (node : Stored) → root < length ns → node ≡ get_or ns root node → ss ≡ [] → IsLive ns root env (trees_of ns) ss m → AreHeld m node.parts
root_parts ns root env ss m node within is none live =
    subst (AreHeld m) (parts_here ns root node within is)
    (root_held ns root env (trees_of ns) m (subst (λ xs. IsLive ns root env (trees_of ns) xs m) none live))

-- a step that is popped
pub popped_is : (xs ss : List Step) (r : Option Step) (x : Step) → xs ≡ ss ++ option_to_list r → r ≡ Some x → xs ≡ ss ++ step x.node x.last ∷ []
popped_is xs ss r x e is = e ∙ ap (λ o. ss ++ option_to_list o) is

-- one reader gives up after another
pub loses_on : (n : ℕ) (a b c : BTreeMap ℕ Kept) → Loses n a b → Loses n b c → Loses n a c
loses_on n a b c f g q =
    ⊎_elim
    (λ (same : kept_at c q ≡ kept_at b q). ⊎_elim
    (λ (e : kept_at b q ≡ kept_at a q). inl (same ∙ e))
    (λ (gone : (kept_at b q ≡ None) × (readers a q ≡ Some n)). inr (same ∙ gone.0, gone.1))
    (f q))
    (λ (gone : (kept_at c q ≡ None) × (readers b q ≡ Some n)). ⊎_elim
    (λ (e : kept_at b q ≡ kept_at a q). inr (gone.0, ap (option_map (λ x. x.last)) (sym e) ∙ gone.1))
    (λ (lost : (kept_at b q ≡ None) × (readers a q ≡ Some n)). inr (gone.0, lost.1))
    (f q))
    (g q)

pub loses_none : (n : ℕ) (a : BTreeMap ℕ Kept) → Loses n a a
loses_none n a q = inl refl
