-- What the tests of parts say: sorts, makers, zeros and empty maps.
use Rattle.std.proofs.Common.{◌≡◌, ℕ, List, [], ◌∷◌, Bool, true, false, ◌&&◌, cond, map, get_or, ⊎_elim, ◌⊎◌, inl, inr, Option, Some, None, nat_eq, nat_le, replicate, ◌%◌, refl, ap, sym, ◌∙◌, subst, eqb-true, rules}
use Rattle.std.proofs.lemmas.Bool.{and_parts}
use Rattle.std.specs.Option.{is_some}
use Rattle.gv_terms.specs.declared.sort.Sort.{Sort}
use Rattle.gv_terms.specs.declared.sort.Sort.TheVariants as sort
use Rattle.gv_terms.specs.declared.operator.Operator.{Operator}
use Rattle.gv_terms.specs.declared.operator.Operator.TheVariants as op
use Rattle.gv_terms.specs.declared.tree.Head.{Head}
use Rattle.gv_terms.specs.declared.tree.Head.TheVariants as head
use Rattle.gv_terms.specs.declared.tree.TermTree.{TermTree, the_lemmas, out-TermTree}
use Rattle.gv_terms.specs.declared.tree.TermTree.TheVariants as tree
use Rattle.gv_terms.specs.declared.tree.TermTree.TheOpen.{TermTree-F, Variable, Apply}
use Rattle.gv_terms.specs.declared.tree.TermTree.TheFolds.{map-TermTree, ind-TermTree}
use Rattle.gv_terms.specs.declared.tree.TermTree.TheViews.{roll-TermTree}
use Rattle.gv_terms.specs.declared.value.Value.TheVariants as val
use Rattle.gv_terms.specs.declared.value.Env.{Env}
use Rattle.gv_terms.specs.Sorts.{sort_number, sort_eq, sort_given, takes, with_copies, item_sort, entry_sort}
use Rattle.gv_terms.specs.Values.{zero_of, sort_of_value, is_sort, word_of}
use Rattle.gv_terms.specs.Meaning.{operate, part}
use Rattle.gv_terms.specs.Trees.{rooted, root_here, root_of, branches_here, branches_of, sort_of, all_sorts, with_sorts, value_under}
use Rattle.gv_terms.proofs.Arity.{limited}
use Rattle.gv_terms.proofs.NodeSorts.{sort_apply}
use Rattle.gv_terms.proofs.Valued.{value_apply}
use Rattle.gv_terms.proofs.ValueSorts.{values_have_sorts}
use Rattle.gv_axioms.specs.Filling.{with_some, only, copies_of, made, is_zero_here, is_zero_term, is_made_of_zero, is_empty_map, held, zero_term, sorted, is_just}
use Rattle.gv_axioms.proofs.Worth.{IsMade}

-- Options.

pub reached : {A B : Type 0} (o : Option A) (f : A → Option B) (b : B) → with_some o f ≡ Some b → (a : A) × (o ≡ Some a) × (f a ≡ Some b)
reached None f b e = absurd cc
reached (Some a) f b e = (a, refl, e)

pub there : {A : Type 0} (o : Option A) → is_some o ≡ true → (a : A) × (o ≡ Some a)
there None e = absurd cc
there (Some a) e = (a, refl)

pub inner : {A : Type 0} (a b : A) → Some a ≡ Some b → a ≡ b
inner a b e = cc

pub chosen : {A : Type 0} (t : Bool) (a b : A) → cond t (Some a) None ≡ Some b → (t ≡ true) × (a ≡ b)
chosen true a b e = (refl, inner a b e)
chosen false a b e = absurd cc

-- Sorts.

abbrev sorts : List Sort
sorts = sort.Word ∷ sort.Bool ∷ sort.Bytes ∷ sort.Words ∷ sort.Refs ∷ sort.Blocks ∷ sort.MapWW ∷ sort.MapWB ∷ sort.Ref ∷ sort.SliceS ∷ sort.Call ∷ sort.Name ∷ []

at_number : (s : Sort) → get_or sorts (sort_number s) sort.Word ≡ s
at_number sort.Word = refl
at_number sort.Bool = refl
at_number sort.Bytes = refl
at_number sort.Words = refl
at_number sort.Refs = refl
at_number sort.Blocks = refl
at_number sort.MapWW = refl
at_number sort.MapWB = refl
at_number sort.Ref = refl
at_number sort.SliceS = refl
at_number sort.Call = refl
at_number sort.Name = refl

same_sort : (r s : Sort) → sort_eq r s ≡ true → r ≡ s
same_sort r s e = sym (at_number r) ∙ ap (λ k. get_or sorts k sort.Word) (eqb-true (sort_number r) (sort_number s) e) ∙ at_number s

pub of_sort : (s : Sort) (o : Option Sort) → is_sort s o ≡ true → o ≡ Some s
of_sort s None e = absurd cc
of_sort s (Some r) e = ap Some (same_sort r s e)

pub just : (o p : Option Sort) → is_just o p ≡ true → (s : Sort) × (o ≡ Some s) × (p ≡ Some s)
just None p e = absurd cc
just (Some s) p e = (s, refl, of_sort s p e)

pub list_held : (o : Option Sort) (s : Sort) → with_some o item_sort ≡ Some s → with_some o held ≡ Some s
list_held None s e = absurd cc
list_held (Some sort.MapWW) s e = absurd cc
list_held (Some sort.MapWB) s e = absurd cc
list_held (Some sort.Bytes) s e = e
list_held (Some sort.Words) s e = e
list_held (Some sort.Refs) s e = e
list_held (Some sort.Blocks) s e = e
list_held (Some _) s e = absurd cc

pub map_held : (o : Option Sort) (s : Sort) → with_some o entry_sort ≡ Some s → with_some o held ≡ Some s
map_held None s e = absurd cc
map_held (Some sort.MapWW) s e = e
map_held (Some sort.MapWB) s e = e
map_held (Some _) s e = absurd cc

-- Trees.

abbrev IsRebuilt : TermTree → Type 0
IsRebuilt t = t ≡ rooted (root_of t) (branches_of t)

open_variable : (n : List ℕ) (s : Sort) → out-TermTree (tree.Variable n s) ≡ Variable n s
open_variable n s = search (rules, the_lemmas)

open_apply : (o : Operator) (ts : List TermTree) → out-TermTree (tree.Apply o ts) ≡ Apply o ts
open_apply o ts = search (rules, the_lemmas)

abbrev again : TermTree-F TermTree → TermTree
again y = rooted (root_here y) (branches_here y)

rebuilt_variable : (n : List ℕ) (s : Sort) → IsRebuilt (tree.Variable n s)
rebuilt_variable n s = sym (ap again (open_variable n s))

rebuilt_apply : (o : Operator) (ts : List TermTree) → IsRebuilt (tree.Apply o ts)
rebuilt_apply o ts = sym (ap again (open_apply o ts))

layer_rebuilt : (y : TermTree-F ((t : TermTree) × IsRebuilt t)) → IsRebuilt (roll-TermTree (map-TermTree ((t : TermTree) × IsRebuilt t) TermTree (λ e. e.0) y))
layer_rebuilt (Variable n s) = subst IsRebuilt (sym (tree.rolls-Variable n s)) (rebuilt_variable n s)
layer_rebuilt (Apply o es) = subst IsRebuilt (sym (tree.rolls-Apply o (map (λ e. e.0) es))) (rebuilt_apply o (map (λ e. e.0) es))

-- a tree is what stands at its root over what stands below it
rebuilt : (t : TermTree) → IsRebuilt t
rebuilt = ind-TermTree IsRebuilt (λ x y is. subst (λ z. IsRebuilt (roll-TermTree z)) is (layer_rebuilt y))

pub from_root : (t : TermTree) (o : Operator) → root_of t ≡ head.Apply o → t ≡ tree.Apply o (branches_of t)
from_root t o e = rebuilt t ∙ ap (λ h. rooted h (branches_of t)) e

-- Makers.

pub data Maker : Type 0 where
  bytes : Maker
  words : Maker
  refs : Maker
  blocks : Maker

abbrev pub operator_of : Maker → ℕ → Operator
operator_of bytes k = op.Bytes k
operator_of words k = op.Words k
operator_of refs k = op.Refs k
operator_of blocks k = op.Blocks k

copies_view : (h : Head) (k : ℕ) → copies_of h ≡ Some k → (m : Maker) × (h ≡ head.Apply (operator_of m k))
copies_view (head.Apply (op.Bytes k)) n e = (bytes, ap (λ p. head.Apply (op.Bytes p)) (inner k n e))
copies_view (head.Apply (op.Words k)) n e = (words, ap (λ p. head.Apply (op.Words p)) (inner k n e))
copies_view (head.Apply (op.Refs k)) n e = (refs, ap (λ p. head.Apply (op.Refs p)) (inner k n e))
copies_view (head.Apply (op.Blocks k)) n e = (blocks, ap (λ p. head.Apply (op.Blocks p)) (inner k n e))
copies_view _ n e = absurd cc

only_view : {A : Type 0} (ts : List A) (t : A) → only ts ≡ Some t → ts ≡ t ∷ []
only_view [] t e = absurd cc
only_view (u ∷ []) t e = ap (λ x. x ∷ []) (inner u t e)
only_view (u ∷ v ∷ ts) t e = absurd cc

made_view : (t : TermTree) (m : ℕ × TermTree) → made t ≡ Some m → (k : Maker) × (root_of t ≡ head.Apply (operator_of k m.0)) × (branches_of t ≡ m.1 ∷ [])
made_view t m e =
    let r = reached (copies_of (root_of t)) (λ k. with_some (only (branches_of t)) (λ v. Some (k, v))) m e in
    let s = reached (only (branches_of t)) (λ v. Some (r.0, v)) m r.2 in
    let same = inner (r.0, s.0) m s.2 in
    let view = copies_view (root_of t) r.0 r.1 in
    (view.0, view.1 ∙ ap (λ x. head.Apply (operator_of view.0 x.0)) same, only_view (branches_of t) s.0 s.1 ∙ ap (λ x. x.1 ∷ []) same)

-- a maker is its operator over what it copies
pub made_is : (t : TermTree) (m : ℕ × TermTree) → made t ≡ Some m → (k : Maker) × (t ≡ tree.Apply (operator_of k m.0) (m.1 ∷ []))
made_is t m e =
    let view = made_view t m e in
    (view.0, from_root t (operator_of view.0 m.0) view.1 ∙ ap (λ ts. tree.Apply (operator_of view.0 m.0) ts) view.2)

wanted : (want s q r : Sort) → takes (want ∷ []) s (q ∷ []) ≡ Some r → q ≡ want
wanted want s q r e = sym (same_sort want q (and_parts (sort_eq want q) true (chosen (sort_eq want q && true) s r e).0).0)

copied_sort : (k : ℕ) (want s : Sort) (o : Option Sort) (r : Sort) → with_sorts (all_sorts (o ∷ [])) (λ ss. with_copies k (takes (want ∷ []) s ss)) ≡ Some r → o ≡ Some want
copied_sort k want s None r e = absurd cc
copied_sort k want s (Some q) r e = ap Some (wanted want s q r (limited (nat_le k 65536) (takes (want ∷ []) s (q ∷ [])) r e))

module _ (env : Env) (k : ℕ) (v : TermTree) where
  value_is : (o : Operator) → value_under env (tree.Apply o (v ∷ [])) ≡ operate o (value_under env v ∷ [])
  value_is o = value_apply env o (v ∷ [])

  item_is : (o : Operator) (want s r : Sort) → sort_given o ≡ (λ ss. with_copies k (takes (want ∷ []) s ss)) → sort_of (tree.Apply o (v ∷ [])) ≡ Some r → sort_of_value (value_under env v) ≡ Some want
  item_is o want s r given e =
      values_have_sorts env v want (copied_sort k want s (sort_of v) r (ap (λ f. with_sorts (all_sorts (sort_of v ∷ [])) f) (sym given) ∙ sym (sort_apply o (v ∷ [])) ∙ e))

-- the value of a maker that has a sort
pub made_value : (env : Env) (kind : Maker) (k : ℕ) (v : TermTree) (r : Sort) → sort_of (tree.Apply (operator_of kind k) (v ∷ [])) ≡ Some r → IsMade (value_under env (tree.Apply (operator_of kind k) (v ∷ []))) k (value_under env v)
made_value env bytes k v r e = record { made = inl (value_is env k v (op.Bytes k), item_is env k v (op.Bytes k) sort.Word sort.Bytes r refl e) }
made_value env words k v r e = record { made = inr (inl (value_is env k v (op.Words k), item_is env k v (op.Words k) sort.Word sort.Words r refl e)) }
made_value env refs k v r e = record { made = inr (inr (inl (value_is env k v (op.Refs k), item_is env k v (op.Refs k) sort.Ref sort.Refs r refl e))) }
made_value env blocks k v r e = record { made = inr (inr (inr (value_is env k v (op.Blocks k), item_is env k v (op.Blocks k) sort.Bytes sort.Blocks r refl e))) }

-- Zeros.

sorted_is : (t u : TermTree) → sorted t ≡ Some u → t ≡ u
sorted_is t u e = (chosen (is_some (sort_of t)) t u e).1

pub zero_value : (env : Env) (s : Sort) (t : TermTree) → zero_term s ≡ Some t → value_under env t ≡ zero_of s
zero_value env sort.Word t e = ap (value_under env) (sym (sorted_is (tree.Apply (op.Number 0) []) t e)) ∙ value_apply env (op.Number 0) []
zero_value env sort.Ref t e = ap (value_under env) (sym (sorted_is (tree.Apply op.Nil []) t e)) ∙ value_apply env op.Nil []
zero_value env sort.Bytes t e =
    let r = reached (sorted (tree.Apply (op.Number 0) [])) (λ u. sorted (tree.Apply (op.Bytes 0) (u ∷ []))) t e in
    ap (value_under env) (sym (sorted_is (tree.Apply (op.Bytes 0) (r.0 ∷ [])) t r.2)) ∙ value_apply env (op.Bytes 0) (r.0 ∷ [])
zero_value env _ t e = absurd cc

zero_view : (env : Env) (h : Head) (ts : List TermTree) → is_zero_here h ts ≡ true → (s : Sort) × (value_under env (rooted h ts) ≡ zero_of s)
zero_view env (head.Apply (op.Number n)) ts e = (sort.Word, value_apply env (op.Number n) ts ∙ ap (λ k. val.Word k) (eqb-true n 0 e))
zero_view env (head.Apply op.Nil) ts e = (sort.Ref, value_apply env op.Nil ts)
zero_view env (head.Apply (op.Bytes k)) ts e =
    (sort.Bytes, value_apply env (op.Bytes k) ts ∙ ap (λ n. val.Bytes (replicate n (word_of (part (map (value_under env) ts) 0) % 256))) (eqb-true k 0 (and_parts (nat_eq k 0) _ e).0))
zero_view env _ ts e = absurd cc

pub of_zero : (o : Option (ℕ × TermTree)) → is_made_of_zero o ≡ true → (m : ℕ × TermTree) × (o ≡ Some m) × (is_zero_term m.1 ≡ true)
of_zero None e = absurd cc
of_zero (Some m) e = (m, refl, e)

pub zero_made : (env : Env) (t : TermTree) → is_zero_term t ≡ true → (s : Sort) × (value_under env t ≡ zero_of s)
zero_made env t e = let view = zero_view env (root_of t) (branches_of t) e in (view.0, ap (value_under env) (rebuilt t) ∙ view.1)

empty_view : (h : Head) → is_empty_map h ≡ true → (h ≡ head.Apply op.MapWW) ⊎ (h ≡ head.Apply op.MapWB)
empty_view (head.Apply op.MapWW) e = inl refl
empty_view (head.Apply op.MapWB) e = inr refl
empty_view _ e = absurd cc

pub empty_value : (env : Env) (t : TermTree) → is_empty_map (root_of t) ≡ true → (value_under env t ≡ val.MapWW []) ⊎ (value_under env t ≡ val.MapWB [])
empty_value env t e =
    ⊎_elim (λ (f : root_of t ≡ head.Apply op.MapWW). inl (ap (value_under env) (from_root t op.MapWW f) ∙ value_apply env op.MapWW (branches_of t)))
    (λ (f : root_of t ≡ head.Apply op.MapWB). inr (ap (value_under env) (from_root t op.MapWB f) ∙ value_apply env op.MapWB (branches_of t)))
    (empty_view (root_of t) e)
