-- Premises that are tested one after another.
use Rattle.std.proofs.Common.{◌≡◌, ◌⊎◌, inl, inr, ℕ, ◌+◌, ◌<◌, ◌≤◌, List, [], ◌∷◌, ◌++◌, map, length, drop, get_or, Bool, true, false, Option, Some, None, refl, sym, ap, ◌∙◌, subst, rules}
use Rattle.std.specs.Prelude.{Result, Ok, Err, IfOk, IfErr, IsErrAnd, IsSome}
use Rattle.std.proofs.lemmas.List.{drop_more, drop_all}
use Rattle.gv_terms.specs.declared.sort.Sort.{Sort}
use Rattle.gv_terms.specs.declared.sort.Sort.TheVariants as sort
use Rattle.gv_terms.specs.declared.operator.Operator.TheVariants as op
use Rattle.gv_terms.specs.declared.tree.TermTree.TheVariants as tree
use Rattle.gv_terms.specs.Sorts.{sort_given}
use Rattle.gv_terms.specs.Trees.{sort_of, all_sorts, with_sorts}
use Rattle.gv_terms.proofs.NodeSorts.{sort_apply}
use Rattle.gv_terms.specs.declared.term.Term.{Term}
use Rattle.gv_terms.specs.declared.tree.TermTree.{TermTree}
use Rattle.gv_terms.specs.Store.{tree_at, trees_at, AreIn, Grows}
use Rattle.gv_terms.proofs.Grown.{trees_kept}
use Rattle.gv_certs.specs.declared.cause.Cause.{Cause}
use Rattle.gv_certs.specs.declared.fault.RuleFault.{RuleFault}
use Rattle.gv_certs.specs.declared.fault.RuleFault.TheVariants as fault
use Rattle.gv_certs.specs.declared.cause.Cause.TheVariants as cause
use Rattle.gv_certs.specs.Trees.{tree_eq, replaced}
use Rattle.gv_known.proofs.Nodes.{tree_kept}
use Rattle.gv_certs.specs.Proving.{Premise, asks, AllHold, FirstFails, is_known_of, of_instance}
use Rattle.gv_side.specs.Telling.{IsFault}

-- an error that is handed on
pub handed_on : {A : Type 0} (r : Result A RuleFault) (e : RuleFault) (P : RuleFault → Type 0) → IsErrAnd r (λ x. x ≡ e) → P e → IfErr r P
handed_on (Ok a) e P h p = tt
handed_on (Err x) e P h p = subst P (sym h) p

first_of : (p : Premise) (ps : List Premise) (k : Cause) → FirstFails (p ∷ []) k → FirstFails (p ∷ ps) k
first_of p ps k f = elim f [ inl here ↦ inl here | inr later ↦ absurd later.1 ]

pub fault_first : (p : Premise) (ps : List Premise) (e : RuleFault) → IsFault (p ∷ []) e → IsFault (p ∷ ps) e
fault_first p ps fault.NoMemory f = tt
fault_first p ps (fault.Cause k) f = first_of p ps k f

pub fault_later : (p : Premise) (ps : List Premise) (e : RuleFault) → AllHold (p ∷ []) → IsFault ps e → IsFault (p ∷ ps) e
fault_later p ps fault.NoMemory h f = tt
fault_later p ps (fault.Cause k) h f = inr (h.0, f)

pub all_more : (p : Premise) (ps : List Premise) → AllHold (p ∷ []) → AllHold ps → AllHold (p ∷ ps)
all_more p ps h g = (h.0, g)

pub all_append : (ps qs : List Premise) → AllHold ps → AllHold qs → AllHold (ps ++ qs)
all_append [] qs h g = g
all_append (p ∷ ps) qs h g = (h.0, all_append ps qs h.1 g)

in_front : (ps qs : List Premise) (k : Cause) → FirstFails ps k → FirstFails (ps ++ qs) k
in_front [] qs k f = absurd f
in_front (p ∷ ps) qs k f = elim f [ inl here ↦ inl here | inr later ↦ inr (later.0, in_front ps qs k later.1) ]

pub fault_in_front : (ps qs : List Premise) (e : RuleFault) → IsFault ps e → IsFault (ps ++ qs) e
fault_in_front ps qs fault.NoMemory f = tt
fault_in_front ps qs (fault.Cause k) f = in_front ps qs k f

behind : (ps qs : List Premise) (k : Cause) → AllHold ps → FirstFails qs k → FirstFails (ps ++ qs) k
behind [] qs k h f = f
behind (p ∷ ps) qs k h f = inr (h.0, behind ps qs k h.1 f)

pub fault_behind : (ps qs : List Premise) (e : RuleFault) → AllHold ps → IsFault qs e → IsFault (ps ++ qs) e
fault_behind ps qs fault.NoMemory h f = tt
fault_behind ps qs (fault.Cause k) h f = behind ps qs k h f

-- ---- a store that grows

pub trees_same : (old new : List TermTree) (ps : List Term) → AreIn old ps → Grows old new → trees_at new ps ≡ trees_at old ps
trees_same old new ps within grows = ap (λ ts. trees_at ts ps) grows.1 ∙ trees_kept old grows.0 ps within

-- ---- known formulas, one after another

abbrev pub none : Term
none = record { id = 0 }

abbrev pub asked : List TermTree → List TermTree → List Term → List Premise
asked facts st ps = map (is_known_of facts) (trees_at st ps)

pub from_here : (facts st : List TermTree) (ps : List Term) (i : ℕ) → i < length ps → asked facts st (drop i ps) ≡ is_known_of facts (tree_at st (get_or ps i none).id) ∷ asked facts st (drop (i + 1) ps)
from_here facts st ps i lt = ap (asked facts st) (drop_more ps i none lt)

pub at_the_end : (facts st : List TermTree) (ps : List Term) (i : ℕ) → length ps ≤ i → asked facts st (drop i ps) ≡ []
at_the_end facts st ps i le = ap (asked facts st) (drop_all i ps le)

-- ---- two premises of one kind

pub both_hold : {A : Type 0} (r : Result A RuleFault) (F G : List TermTree) (g d u : TermTree) → G ≡ F → u ≡ d → AllHold (is_known_of F g ∷ [])
    → IfOk r (λ x. AllHold (is_known_of G u ∷ [])) → IfOk r (λ x. (f : TermTree) → AllHold (is_known_of F g ∷ is_known_of F d ∷ []))
both_hold (Err e) F G g d u facts is h last = tt
both_hold (Ok a) F G g d u facts is h last =
    λ f. (h.0, subst (λ t. AllHold (is_known_of F t ∷ [])) is (subst (λ E. AllHold (is_known_of E u ∷ [])) facts last))

pub second_fault : {A : Type 0} (r : Result A RuleFault) (F G : List TermTree) (g d u : TermTree) → G ≡ F → u ≡ d → AllHold (is_known_of F g ∷ [])
    → IfErr r (IsFault (is_known_of G u ∷ [])) → IfErr r (λ e. (f : TermTree) → IsFault (is_known_of F g ∷ is_known_of F d ∷ []) e)
second_fault (Ok a) F G g d u facts is h last = tt
second_fault (Err e) F G g d u facts is h last =
    λ f. fault_later (is_known_of F g) (is_known_of F d ∷ []) e h (subst (λ t. IsFault (is_known_of F t ∷ []) e) is (subst (λ E. IsFault (is_known_of E u ∷ []) e) facts last))

-- ---- an instance

module _ (F G : List TermTree) (o : Option (List TermTree × TermTree)) (us ws : List TermTree) (v t : TermTree) (there : o ≡ Some (us, v)) (facts : G ≡ F) (terms : ws ≡ us) where
  abbrev last : Bool → List Premise
  last b = asks b cause.Mismatch ∷ []

  all_known : AllHold (map (is_known_of G) ws) → AllHold (map (is_known_of F) us)
  all_known h = subst (λ vs. AllHold (map (is_known_of F) vs)) terms (subst (λ E. AllHold (map (is_known_of E) ws)) facts h)

  pub given : {A : Type 0} (r : Result A RuleFault) (b : Bool) → b ≡ tree_eq v t → AllHold (map (is_known_of G) ws) → IfOk r (λ x. AllHold (last b)) → IfOk r (λ x. AllHold (of_instance F t o))
  given (Err e) b is h l = tt
  given (Ok a) b is h l =
      subst (λ q. AllHold (of_instance F t q)) (sym there) (all_append (map (is_known_of F) us) (last (tree_eq v t)) (all_known h) (subst (λ c. AllHold (last c)) is l))

  pub not_given : {A : Type 0} (r : Result A RuleFault) (b : Bool) → b ≡ tree_eq v t → AllHold (map (is_known_of G) ws) → IfErr r (IsFault (last b)) → IfErr r (IsFault (of_instance F t o))
  not_given (Ok a) b is h l = tt
  not_given (Err e) b is h l =
      subst (λ q. IsFault (of_instance F t q) e) (sym there)
      (fault_behind (map (is_known_of F) us) (last (tree_eq v t)) e (all_known h) (subst (λ c. IsFault (last c) e) is l))

  pub not_known : (e : RuleFault) → IsFault (map (is_known_of G) ws) e → IsFault (of_instance F t o) e
  not_known e h =
      subst (λ q. IsFault (of_instance F t q) e) (sym there)
      (fault_in_front (map (is_known_of F) us) (last (tree_eq v t)) e
      (subst (λ vs. IsFault (map (is_known_of F) vs) e) terms (subst (λ E. IsFault (map (is_known_of E) ws) e) facts h)))

-- ---- sorts

pub negation_sorted : (st : List TermTree) (ps : List Term) (t : Term) → ps ≡ t ∷ [] → sort_of (tree_at st t.id) ≡ Some sort.Bool → IsSome (sort_of (tree.Apply op.Not (trees_at st ps)))
negation_sorted st ps t e f =
    let given : sort_of (tree.Apply op.Not (trees_at st ps)) ≡ Some sort.Bool =
    ap (λ qs. sort_of (tree.Apply op.Not (trees_at st qs))) e ∙ sort_apply op.Not (tree_at st t.id ∷ []) ∙ ap (λ s. with_sorts (all_sorts (s ∷ [])) (sort_given op.Not)) f in
    subst (λ s. IsSome s) (sym given) (search rules)

pub equation_sorted : (st : List TermTree) (ps : List Term) (a b : Term) (s : Sort) → ps ≡ a ∷ b ∷ [] → sort_of (tree_at st a.id) ≡ sort_of (tree_at st b.id) → sort_of (tree_at st a.id) ≡ Some s
    → IsSome (sort_of (tree.Apply op.Equal (trees_at st ps)))
equation_sorted st ps a b s e alike sorted =
    let given : sort_of (tree.Apply op.Equal (trees_at st ps)) ≡ with_sorts (all_sorts (Some s ∷ Some s ∷ [])) (sort_given op.Equal) =
    ap (λ qs. sort_of (tree.Apply op.Equal (trees_at st qs))) e ∙ sort_apply op.Equal (tree_at st a.id ∷ tree_at st b.id ∷ [])
    ∙ ap (λ r. with_sorts (all_sorts (sort_of (tree_at st a.id) ∷ r ∷ [])) (sort_given op.Equal)) (sym alike)
    ∙ ap (λ r. with_sorts (all_sorts (r ∷ r ∷ [])) (sort_given op.Equal)) sorted in
    subst (λ r. IsSome r) (sym given) (two_alike s)
  where
    two_alike : (s : Sort) → IsSome (with_sorts (all_sorts (Some s ∷ Some s ∷ [])) (sort_given op.Equal))
    two_alike sort.Word = search rules
    two_alike sort.Bool = search rules
    two_alike sort.Bytes = search rules
    two_alike sort.Words = search rules
    two_alike sort.Refs = search rules
    two_alike sort.Blocks = search rules
    two_alike sort.MapWW = search rules
    two_alike sort.MapWB = search rules
    two_alike sort.Ref = search rules
    two_alike sort.SliceS = search rules
    two_alike sort.Call = search rules
    two_alike sort.Name = search rules

-- ---- equals put for equals

pub known_same : (F G : List TermTree) (u d : TermTree) → G ≡ F → u ≡ d → AllHold (is_known_of G u ∷ []) → AllHold (is_known_of F d ∷ [])
known_same F G u d facts is h = subst (λ t. AllHold (is_known_of F t ∷ [])) is (subst (λ E. AllHold (is_known_of E u ∷ [])) facts h)

pub fault_same : (F G : List TermTree) (u d : TermTree) (e : RuleFault) → G ≡ F → u ≡ d → IsFault (is_known_of G u ∷ []) e → IsFault (is_known_of F d ∷ []) e
fault_same F G u d e facts is h = subst (λ t. IsFault (is_known_of F t ∷ []) e) is (subst (λ E. IsFault (is_known_of E u ∷ []) e) facts h)

pub last_holds : {A : Type 0} (r : Result A RuleFault) (b d : Bool) (front : List Premise) → b ≡ d → AllHold front → IfOk r (λ x. AllHold (asks b cause.Mismatch ∷ []))
    → IfOk r (λ x. AllHold (front ++ (asks d cause.Mismatch ∷ [])))
last_holds (Err e) b d front is h l = tt
last_holds (Ok a) b d front is h l = all_append front (asks d cause.Mismatch ∷ []) h (subst (λ c. AllHold (asks c cause.Mismatch ∷ [])) is l)

pub last_fails : {A : Type 0} (r : Result A RuleFault) (b d : Bool) (front : List Premise) → b ≡ d → AllHold front → IfErr r (IsFault (asks b cause.Mismatch ∷ []))
    → IfErr r (IsFault (front ++ (asks d cause.Mismatch ∷ [])))
last_fails (Ok a) b d front is h l = tt
last_fails (Err e) b d front is h l = fault_behind front (asks d cause.Mismatch ∷ []) e h (subst (λ c. IsFault (asks c cause.Mismatch ∷ []) e) is l)

pub replaced_kept : (old new : List TermTree) (a b t : Term) → a.id < length old → b.id < length old → t.id < length old → Grows old new
    → replaced (tree_at new a.id) (tree_at new b.id) (tree_at new t.id) ≡ replaced (tree_at old a.id) (tree_at old b.id) (tree_at old t.id)
replaced_kept old new a b t la lb lt grows =
    ap (λ x. replaced x (tree_at new b.id) (tree_at new t.id)) (tree_kept old new a la grows) ∙ ap (λ x. replaced (tree_at old a.id) x (tree_at new t.id)) (tree_kept old new b lb grows)
    ∙ ap (replaced (tree_at old a.id) (tree_at old b.id)) (tree_kept old new t lt grows)
