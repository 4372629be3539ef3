-- The faults of a term as it was read, and the first of them.
use Rattle.std.proofs.Common.{◌≡◌, ℕ, zero, suc, ◌<◌, ◌≤◌, ◌⊎◌, inl, inr, ⊎_elim, List, [], ◌∷◌, true, Some, None, Result, Ok, Err, IfOk, IfErr, IsSome, option_and_then, option_map, map, take, refl, sym, ap, ◌∙◌, subst, arith, rules}
use Rattle.std.specs.Prelude.{slice_get}
use Rattle.std.proofs.lemmas.Bool.{cases_lt}
use Rattle.gv_base.specs.declared.answers.Code.{Code}
use Rattle.gv_base.specs.declared.answers.Code.TheVariants as code
use Rattle.gv_terms.specs.declared.var.Var.{Var}
use Rattle.gv_terms.specs.declared.operator.Operator.{Operator}
use Rattle.gv_terms.specs.declared.term.Term.{Term}
use Rattle.gv_terms.specs.declared.tree.TermTree.{TermTree}
use Rattle.gv_terms.specs.declared.tree.TermTree.TheVariants as tree
use Rattle.gv_terms.specs.declared.tree.RawTerm.{RawTerm, the_lemmas, out-RawTerm}
use Rattle.gv_terms.specs.declared.tree.RawTerm.TheVariants as raw
use Rattle.gv_terms.specs.declared.tree.RawTerm.TheOpen.{Variable, Apply}
use Rattle.gv_terms.specs.declared.resolving.ResolveFault.{ResolveFault}
use Rattle.gv_terms.specs.declared.resolving.ResolveFault.TheVariants as answer
use Rattle.gv_terms.specs.Trees.{sort_of}
use Rattle.gv_terms.specs.Store.{tree_at}
use Rattle.gv_terms.specs.Scopes.{sort_under, is_closed}
use Rattle.gv_terms.specs.Resolving.{all_there, if_sorted, resolved, HasFault, undeclared, wrong_type, of_part, IsNotAfter, IsFirstFault, IsCause, IsOwnFault}
use Rattle.gv_terms.proofs.RawTrees.{resolved_variable, resolved_apply, resolved_fit, sorted_node, unsorted_node, missing, all_some}

-- Nodes.

open_variable : (n : List ℕ) → out-RawTerm (raw.Variable n) ≡ Variable n
open_variable n = search (rules, the_lemmas)

open_apply : (o : Operator) (parts : List RawTerm) → out-RawTerm (raw.Apply o parts) ≡ Apply o parts
open_apply o parts = search (rules, the_lemmas)

apart : (n : List ℕ) (o : Operator) (parts : List RawTerm) → raw.Variable n ≡ raw.Apply o parts → ⊥
apart n o parts e = let f = sym (open_variable n) ∙ ap out-RawTerm e ∙ open_apply o parts in absurd cc

same_apply : (o p : Operator) (ps qs : List RawTerm) → raw.Apply o ps ≡ raw.Apply p qs → (o ≡ p) × (ps ≡ qs)
same_apply o p ps qs e = let f = sym (open_apply o ps) ∙ ap out-RawTerm e ∙ open_apply p qs in (cc, cc)

-- What a fault is of.

record OwnFault (vars : List Var) (o : Operator) (parts : List RawTerm) (path : List ℕ) : Type 0 where
  trees : List TermTree
  stand : map (resolved vars) parts ≡ map Some trees
  none : sort_of (tree.Apply o trees) ≡ None
  root : path ≡ []

record PartFault (vars : List Var) (parts : List RawTerm) (path : List ℕ) (c : Code) : Type 0 where
  number : ℕ
  part : RawTerm
  below : List ℕ
  at : slice_get parts number ≡ Some part
  fault : HasFault vars part below c
  is : path ≡ number ∷ below

variable_fault : (vars : List Var) (n : List ℕ) {t : RawTerm} {path : List ℕ} {c : Code} → HasFault vars t path c → t ≡ raw.Variable n → path ≡ []
variable_fault vars n (undeclared m e) is = refl
variable_fault vars n (wrong_type o parts ts e w) is = refl
variable_fault vars n (of_part o parts i part at h) is = absurd (apart n o parts (sym is))

apply_fault : (vars : List Var) (o : Operator) (parts : List RawTerm) {t : RawTerm} {path : List ℕ} {c : Code} → HasFault vars t path c → t ≡ raw.Apply o parts → OwnFault vars o parts path ⊎ PartFault vars parts path c
apply_fault vars o parts (undeclared m e) is = absurd (apart m o parts is)
apply_fault vars o parts (wrong_type p ps ts e w) is =
    let same = same_apply p o ps parts is in
    inl (record {
      trees = ts;
      stand = ap (map (resolved vars)) (sym same.1) ∙ e;
      none = ap (λ q. sort_of (tree.Apply q ts)) (sym same.0) ∙ w;
      root = refl;
    })
apply_fault vars o parts (of_part p ps i part {path} {c} at h) is =
    inr (record {
      number = i;
      part = part;
      below = path;
      at = ap (λ qs. slice_get qs i) (sym (same_apply p o ps parts is).1) ∙ at;
      fault = h;
      is = refl;
    })

-- a term with a fault stands for no tree
pub unresolved : (vars : List Var) {t : RawTerm} {path : List ℕ} {c : Code} → HasFault vars t path c → resolved vars t ≡ None
unresolved vars (undeclared n e) = resolved_variable vars n ∙ ap (option_map (λ r. tree.Variable n r)) e
unresolved vars (wrong_type o parts ts e w) = unsorted_node vars o parts ts e w
unresolved vars (of_part o parts i part at h) = resolved_apply vars o parts ∙ ap (option_and_then (λ ts. if_sorted (tree.Apply o ts))) (missing vars parts i part at (unresolved vars h))

pub faultless : (vars : List Var) (t : RawTerm) (u : TermTree) → resolved vars t ≡ Some u → (path : List ℕ) (c : Code) → HasFault vars t path c → ⊥
faultless vars t u e path c h = let none = unresolved vars h in absurd cc

-- a part that stands for a tree, where the first ones do
stands : (vars : List Var) (parts : List RawTerm) (i j : ℕ) (ts : List TermTree) (part : RawTerm) → map (resolved vars) (take i parts) ≡ map Some ts → j < i → slice_get parts j ≡ Some part → (u : TermTree) × (resolved vars part ≡ Some u)
stands vars [] i j ts part e lt at = absurd cc
stands vars (p ∷ parts) zero j ts part e lt at = absurd (omega arith)
stands vars (p ∷ parts) (suc i) j [] part e lt at = absurd cc
stands vars (p ∷ parts) (suc i) zero (t ∷ ts) part e lt at =
    let same : p ≡ part = cc in
    let first : resolved vars p ≡ Some t = cc in
    (t, ap (resolved vars) (sym same) ∙ first)
stands vars (p ∷ parts) (suc i) (suc j) (t ∷ ts) part e lt at =
    let rest : map (resolved vars) (take i parts) ≡ map Some ts = cc in
    let lower : j < i = omega arith in
    stands vars parts i j ts part rest lower at

-- The first fault.

pub first_unknown : (vars : List Var) (n : List ℕ) → sort_under vars n ≡ None → IsFirstFault vars (raw.Variable n) [] code.Undeclared
first_unknown vars n e = record { there = undeclared n e; others = λ q d h. tt }

pub first_own : (vars : List Var) (o : Operator) (parts : List RawTerm) (ts : List TermTree) → map (resolved vars) parts ≡ map Some ts → sort_of (tree.Apply o ts) ≡ None → IsFirstFault vars (raw.Apply o parts) [] code.WrongType
first_own vars o parts ts e w = record { there = wrong_type o parts ts e w; others = λ q d h. tt }

-- the first fault of the first part that has one
pub first_of_part : (vars : List Var) (o : Operator) (parts : List RawTerm) (i : ℕ) (part : RawTerm) (ts : List TermTree) (path : List ℕ) (c : Code) → slice_get parts i ≡ Some part → map (resolved vars) (take i parts) ≡ map Some ts → IsFirstFault vars part path c → IsFirstFault vars (raw.Apply o parts) (i ∷ path) c
first_of_part vars o parts i part ts path c at good first = record {
  there = of_part o parts i part at first.there;
  others = λ q d h. ⊎_elim
      (λ (own : OwnFault vars o parts q).
      let none = missing vars parts i part at (unresolved vars first.there) in
      let some = ap all_there own.stand ∙ all_some own.trees in
      absurd cc)
      (λ (of : PartFault vars parts q d). subst (IsNotAfter (i ∷ path)) (sym of.is) (by of))
      (apply_fault vars o parts h refl);
}
  where
    same_part : {d : Code} (q : List ℕ) (j : ℕ) (other : RawTerm) → i ≡ j → slice_get parts j ≡ Some other → HasFault vars other q d → IsNotAfter path q
    same_part {d} q j other e at_j h =
        let here : slice_get parts i ≡ Some other = ap (slice_get parts) e ∙ at_j in
        let same : other ≡ part = cc in
        first.others q d (subst (λ t. HasFault vars t q d) same h)

    by : {q : List ℕ} {d : Code} (of : PartFault vars parts q d) → IsNotAfter (i ∷ path) (of.number ∷ of.below)
    by {q} {d} of =
        ⊎_elim
        (λ (later : i < of.number). inl later)
        (λ (le : of.number ≤ i). ⊎_elim
        (λ (earlier : of.number < i).
        let stood = stands vars parts i of.number ts of.part good earlier of.at in
        absurd (faultless vars of.part stood.0 stood.1 of.below d of.fault))
        (λ (ge : i ≤ of.number). let e : i ≡ of.number = omega arith in inr (e, same_part of.below of.number of.part e of.at of.fault))
        (cases_lt of.number i))
        (cases_lt i of.number)

-- What follows from a term's tree.

pub ok_sorted : (vars : List Var) (n : RawTerm) (ts : List TermTree) (r : Result Term ResolveFault) → IfOk r (λ t. resolved vars n ≡ Some (tree_at ts t.id)) → IfOk r (λ t. IsSome (sort_of (tree_at ts t.id)))
ok_sorted vars n ts (Ok t) e = (resolved_fit vars n (tree_at ts t.id) e).0
ok_sorted vars n ts (Err f) e = tt

pub ok_closed : (vars : List Var) (n : RawTerm) (ts : List TermTree) (r : Result Term ResolveFault) → IfOk r (λ t. resolved vars n ≡ Some (tree_at ts t.id)) → IfOk r (λ t. is_closed vars (tree_at ts t.id) ≡ true)
ok_closed vars n ts (Ok t) e = (resolved_fit vars n (tree_at ts t.id) e).1
ok_closed vars n ts (Err f) e = tt

pub ok_faultless : (vars : List Var) (n : RawTerm) (ts : List TermTree) (r : Result Term ResolveFault) → IfOk r (λ t. resolved vars n ≡ Some (tree_at ts t.id)) → IfOk r (λ t. (path : List ℕ) (c : Code) → HasFault vars n path c → ⊥)
ok_faultless vars n ts (Ok t) e = faultless vars n (tree_at ts t.id) e
ok_faultless vars n ts (Err f) e = tt

pub ok_tree : (vars : List Var) (o : Operator) (parts : List RawTerm) (n : RawTerm) (us ts : List TermTree) (r : Result Term ResolveFault) → n ≡ raw.Apply o parts → map (resolved vars) parts ≡ map Some us → IfOk r (λ t. tree_at ts t.id ≡ tree.Apply o us) → IfOk r (λ t. IsSome (sort_of (tree.Apply o us))) → IfOk r (λ t. resolved vars n ≡ Some (tree_at ts t.id))
ok_tree vars o parts n us ts (Ok t) is e made sorted = ap (resolved vars) is ∙ sorted_node vars o parts us e sorted ∙ ap Some (sym made)
ok_tree vars o parts n us ts (Err f) is e made sorted = tt

own_cause : (vars : List Var) (o : Operator) (parts : List RawTerm) (us : List TermTree) (f : ResolveFault) → map (resolved vars) parts ≡ map Some us → IsOwnFault o us f → IsCause vars (raw.Apply o parts) f
own_cause vars o parts us answer.NoMemory e h = tt
own_cause vars o parts us (answer.At path c) e h =
    subst (λ q. IsFirstFault vars (raw.Apply o parts) q c) (sym h.1)
    (subst (λ d. IsFirstFault vars (raw.Apply o parts) [] d) (sym h.2) (first_own vars o parts us e h.0))

pub err_own : (vars : List Var) (o : Operator) (parts : List RawTerm) (n : RawTerm) (us : List TermTree) (r : Result Term ResolveFault) → n ≡ raw.Apply o parts → map (resolved vars) parts ≡ map Some us → IfErr r (IsOwnFault o us) → IfErr r (IsCause vars n)
err_own vars o parts n us (Ok t) is e h = tt
err_own vars o parts n us (Err f) is e h = subst (λ m. IsCause vars m f) (sym is) (own_cause vars o parts us f e h)

-- the first fault of a part, told by the node above it
pub part_cause : (vars : List Var) (o : Operator) (parts : List RawTerm) (i : ℕ) (part : RawTerm) (ts : List TermTree) (path : List ℕ) (c : Code) (f : ResolveFault) → slice_get parts i ≡ Some part → map (resolved vars) (take i parts) ≡ map Some ts → IsFirstFault vars part path c → (f ≡ answer.NoMemory) ⊎ (f ≡ answer.At (i ∷ path) c) → IsCause vars (raw.Apply o parts) f
part_cause vars o parts i part ts path c f at good first told =
    ⊎_elim
    (λ (e : f ≡ answer.NoMemory). subst (IsCause vars (raw.Apply o parts)) (sym e) tt)
    (λ (e : f ≡ answer.At (i ∷ path) c). subst (IsCause vars (raw.Apply o parts)) (sym e) (first_of_part vars o parts i part ts path c at good first))
    told
