-- How far the parts of a term as it was read are resolved, while the store grows.
use Rattle.std.proofs.Common.{◌≡◌, ℕ, zero, suc, ◌+◌, ◌<◌, ◌⊎◌, List, [], ◌∷◌, ◌++◌, Some, map, take, get_or, length, sym, ap, ◌∙◌, subst, arith, append_assoc}
use Rattle.std.specs.Prelude.{slice_get}
use Rattle.std.proofs.Math.Seq.{take-length}
use Rattle.std.proofs.lemmas.List.{map-append, take_more}
use Rattle.gv_base.specs.declared.answers.Code.{Code}
use Rattle.gv_terms.specs.declared.var.Var.{Var}
use Rattle.gv_terms.specs.declared.operator.Operator.{Operator}
use Rattle.gv_terms.specs.declared.term.Term.{Term}
use Rattle.gv_terms.specs.declared.tree.TermTree.{TermTree}
use Rattle.gv_terms.specs.declared.tree.RawTerm.{RawTerm}
use Rattle.gv_terms.specs.declared.tree.RawTerm.TheVariants as raw
use Rattle.gv_terms.specs.declared.resolving.ResolveFault.{ResolveFault}
use Rattle.gv_terms.specs.declared.resolving.ResolveFault.TheVariants as answer
use Rattle.gv_terms.specs.Store.{tree_at, trees_at, AreIn, Grows}
use Rattle.gv_terms.specs.Resolving.{resolved, IsFirstFault, IsCause}
use Rattle.gv_terms.proofs.Grown.{trees_kept}
use Rattle.gv_terms.proofs.RawFaults.{part_cause}

pub grows_on : (a b c : List TermTree) → Grows a b → Grows b c → Grows a c
grows_on a b c g h = (g.0 ++ h.0, h.1 ∙ ap (λ ts. ts ++ h.0) g.1 ∙ append_assoc a g.0 h.0)

-- terms of a store keep their trees while it grows
same_trees : (old new : List TermTree) (terms : List Term) → AreIn old terms → Grows old new → trees_at new terms ≡ trees_at old terms
same_trees old new terms within grows = ap (λ ts. trees_at ts terms) grows.1 ∙ trees_kept old grows.0 terms within

-- a part that has a term
pub good_part : (vars : List Var) (items : List RawTerm) (i : ℕ) (part : RawTerm) (old new : List TermTree) (terms more : List Term) (t : Term) → i < length items → part ≡ get_or items i part → AreIn old terms → Grows old new → map (resolved vars) (take i items) ≡ map Some (trees_at old terms) → resolved vars part ≡ Some (tree_at new t.id) → more ≡ terms ++ t ∷ [] → map (resolved vars) (take (i + 1) items) ≡ map Some (trees_at new more)
good_part vars items i part old new terms more t lt is within grows stand good e =
    ap (map (resolved vars)) (take_more items i part lt ∙ ap (λ p. take i items ++ p ∷ []) (sym is))
    ∙ map-append (resolved vars) (take i items) (part ∷ [])
    ∙ ap (λ os. os ++ resolved vars part ∷ []) (stand ∙ ap (map Some) (sym (same_trees old new terms within grows)))
    ∙ ap (λ o. map Some (trees_at new terms) ++ o ∷ []) good
    ∙ sym (map-append Some (trees_at new terms) (tree_at new t.id ∷ []))
    ∙ ap (map Some) (sym (map-append (λ u. tree_at new u.id) terms (t ∷ [])) ∙ ap (trees_at new) (sym e))

got : (items : List RawTerm) (i : ℕ) (part : RawTerm) → i < length items → part ≡ get_or items i part → slice_get items i ≡ Some part
got [] i part lt is = absurd (omega arith)
got (p ∷ items) zero part lt is = ap Some (sym is)
got (p ∷ items) (suc i) part lt is = got items i part (omega arith) is

-- a part that has a fault
pub faulty_part : (vars : List Var) (o : Operator) (items : List RawTerm) (i : ℕ) (part : RawTerm) (ts : List TermTree) (path : List ℕ) (c : Code) {p : List ℕ} {d : Code} (f : ResolveFault) → i < length items → part ≡ get_or items i part → map (resolved vars) (take i items) ≡ map Some ts → IsFirstFault vars part path c → p ≡ path → d ≡ c → (f ≡ answer.NoMemory) ⊎ (f ≡ answer.At (i ∷ p) d) → IsCause vars (raw.Apply o items) f
faulty_part vars o items i part ts path c {p} {d} f lt is stand first e g told =
    let there : IsFirstFault vars part p d = subst (λ q. IsFirstFault vars part q d) (sym e) (subst (IsFirstFault vars part path) (sym g) first) in
    part_cause vars o items i part ts p d f (got items i part lt is) stand there told

-- all parts
pub at_end : (vars : List Var) (items parts : List RawTerm) (i : ℕ) (ts : List TermTree) → length items ≡ i → items ≡ parts → map (resolved vars) (take i items) ≡ map Some ts → map (resolved vars) parts ≡ map Some ts
at_end vars items parts i ts e is stand =
    ap (map (resolved vars)) (sym (ap (λ k. take k items) (sym e) ∙ take-length items ∙ is)) ∙ stand
