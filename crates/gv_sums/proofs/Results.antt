-- Results, and lists of terms that grow.
use Rattle.std.proofs.Common.{◌≡◌, ◌<◌, List, [], ◌∷◌, ◌++◌, length, refl, sym, ap}
use Rattle.std.specs.Prelude.{Result, Ok, Err, IfOk, IfErr}
use Rattle.gv_terms.specs.declared.term.Term.{Term}
use Rattle.gv_terms.specs.declared.tree.TermTree.{TermTree}
use Rattle.gv_terms.specs.Store.{AreIn, Grows}
use Rattle.gv_terms.proofs.Grown.{one_more_in}

pub if_ok : {A E : Type 0} (r : Result A E) (P Q : A → Type 0) → IfOk r P → ((a : A) → P a → Q a) → IfOk r Q
if_ok (Ok a) P Q h f = f a h
if_ok (Err e) P Q h f = tt

pub if_err : {A E : Type 0} (r : Result A E) (P Q : E → Type 0) → IfErr r P → ((e : E) → P e → Q e) → IfErr r Q
if_err (Ok a) P Q h f = tt
if_err (Err e) P Q h f = f e h

grows_none : (st : List TermTree) → Grows st st
grows_none st = ([], sym (append_none st))
  where
    append_none : (ts : List TermTree) → ts ++ [] ≡ ts
    append_none [] = refl
    append_none (t ∷ ts) = ap (λ us. t ∷ us) (append_none ts)

-- one term more in a store
pub one_more_here : (st : List TermTree) (ps : List Term) (t : Term) → AreIn st ps → t.id < length st → AreIn st (ps ++ t ∷ [])
one_more_here st ps t within lt = one_more_in st st ps t within (grows_none st) lt
