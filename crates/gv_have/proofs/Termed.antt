-- Certificates whose terms are all there.
use Rattle.std.proofs.Common.{◌≡◌, List, [], ◌∷◌, ◌++◌, map, true, Option, Some, None, option_map, refl, sym, ap, subst}
use Rattle.std.specs.Prelude.{IsSome}
use Rattle.std.proofs.Math.IntN.{ℤ}
use Rattle.std.proofs.lemmas.List.Elements.{All-nil, All-append}
use Rattle.gv_terms.specs.declared.tree.TermTree.{TermTree}
use Rattle.gv_terms.specs.Ranges.{numbers_are_words}
use Rattle.gv_terms.specs.Store.{tree_at, trees_at}
use Rattle.gv_terms.specs.Trees.{sort_of}
use Rattle.gv_axioms.specs.Filling.{with_some}
use Rattle.gv_axioms.specs.Truth.{AreTerms}
use Rattle.gv_certs.specs.declared.fault.RuleFault.{RuleFault}
use Rattle.gv_certs.specs.declared.fault.RuleFault.TheVariants as fault
use Rattle.gv_certs.specs.Laws.{HasTerms}
use Rattle.gv_certs.specs.Proving.{Certificate, by, known, compute, linear, cases, then}
use Rattle.gv_sums.specs.declared.factored.FactoredTerm.{FactoredTerm}
use Rattle.gv_sums.specs.Reading.{row_at, formulas_in}
use Rattle.gv_have.specs.Scoping.{cases_in}
use Rattle.gv_have.proofs.Forms.{stepped}
use Rattle.gv_have.specs.Telling.{IsUnscoped, IsScoped}

-- ---- there

pub scoped_map : {A : Type 0} (x : Option A) (a : A) (make : A → Certificate) → x ≡ Some a → HasTerms (make a) → IsScoped (option_map make x)
scoped_map x a make is h = subst (λ o. IsScoped (option_map make o)) (sym is) (make a, refl, h)

pub scoped_both : {A B : Type 0} (x : Option A) (y : Option B) (a : A) (b : B) (make : A → B → Certificate) → x ≡ Some a → y ≡ Some b → HasTerms (make a b) → IsScoped (with_some x (λ a. option_map (make a) y))
scoped_both x y a b make is js h = subst (λ o. IsScoped (with_some o (λ a. option_map (make a) y))) (sym is) (scoped_map y b (make a) js h)

pub together : (ts us : List TermTree) → AreTerms ts → AreTerms us → AreTerms (ts ++ us)
together ts us h g = All-append (λ u. IsSome (sort_of u) × (numbers_are_words u ≡ true)) ts us h g

pub formulas_are : (st : List TermTree) (rs : List FactoredTerm) → map (λ r. r.1) (map (row_at st) rs) ≡ trees_at st (formulas_in rs)
formulas_are st [] = refl
formulas_are st (r ∷ rs) = ap (λ ts. tree_at st r.formula.id ∷ ts) (formulas_are st rs)

pub scoped_cases : (x : Option TermTree) (h d : Option Certificate) (t : TermTree) → x ≡ Some t → AreTerms (t ∷ []) → IsScoped h → IsScoped d → IsScoped (cases_in x h d)
scoped_cases x h d t is terms (a, e, p) (b, f, q) =
    subst (λ o. IsScoped (cases_in o h d)) (sym is)
    (subst (λ o. IsScoped (cases_in (Some t) o d)) (sym e) (subst (λ o. IsScoped (cases_in (Some t) (Some a) o)) (sym f) (cases t a b, refl, (terms, p, q))))

pub scoped_step : (x : Option TermTree) (k r : Option Certificate) (t : TermTree) → x ≡ Some t → AreTerms (t ∷ []) → IsScoped k → IsScoped r → IsScoped (stepped x k r)
scoped_step x k r t is terms (a, e, p) (b, f, q) =
    subst (λ o. IsScoped (stepped o k r)) (sym is)
    (subst (λ o. IsScoped (stepped (Some t) o r)) (sym e) (subst (λ o. IsScoped (stepped (Some t) (Some a) o)) (sym f) (then t a b, refl, (terms, p, q))))

-- ---- not there

pub unscoped_map : {A B : Type 0} (x : Option A) (make : A → B) (e : RuleFault) → IsUnscoped x e → IsUnscoped (option_map make x) e
unscoped_map x make fault.NoMemory h = tt
unscoped_map x make (fault.Cause k) h = (h.0, ap (option_map make) h.1)

pub unscoped_first : {A B : Type 0} (x : Option A) (make : A → Option B) (e : RuleFault) → IsUnscoped x e → IsUnscoped (with_some x make) e
unscoped_first x make fault.NoMemory h = tt
unscoped_first x make (fault.Cause k) h = (h.0, ap (λ o. with_some o make) h.1)

pub unscoped_second : {A B C : Type 0} (x : Option A) (y : Option B) (make : A → B → C) (e : RuleFault) → IsUnscoped y e → IsUnscoped (with_some x (λ a. option_map (make a) y)) e
unscoped_second x y make fault.NoMemory h = tt
unscoped_second None y make (fault.Cause k) h = (h.0, refl)
unscoped_second (Some a) y make (fault.Cause k) h = (h.0, ap (option_map (make a)) h.1)

no_holds : (x : Option TermTree) (h d : Option Certificate) → h ≡ None → cases_in x h d ≡ None
no_holds None h d e = refl
no_holds (Some t) h d e = ap (λ o. with_some o (λ c. option_map (cases t c) d)) e

no_fails : (x : Option TermTree) (h d : Option Certificate) → d ≡ None → cases_in x h d ≡ None
no_fails None h d e = refl
no_fails (Some t) None d e = refl
no_fails (Some t) (Some c) d e = ap (option_map (cases t c)) e

pub unscoped_holds : (x : Option TermTree) (h d : Option Certificate) (e : RuleFault) → IsUnscoped h e → IsUnscoped (cases_in x h d) e
unscoped_holds x h d fault.NoMemory p = tt
unscoped_holds x h d (fault.Cause k) p = (p.0, no_holds x h d p.1)

pub unscoped_fails : (x : Option TermTree) (h d : Option Certificate) (e : RuleFault) → IsUnscoped d e → IsUnscoped (cases_in x h d) e
unscoped_fails x h d fault.NoMemory p = tt
unscoped_fails x h d (fault.Cause k) p = (p.0, no_fails x h d p.1)

-- of steps
pub no_step_formula : (x : Option TermTree) (k r : Option Certificate) → x ≡ None → stepped x k r ≡ None
no_step_formula x k r e = ap (λ o. stepped o k r) e

pub no_step_cert : (x : Option TermTree) (k r : Option Certificate) → k ≡ None → stepped x k r ≡ None
no_step_cert None k r e = refl
no_step_cert (Some t) k r e = ap (λ o. stepped (Some t) o r) e

pub no_later : (x : Option TermTree) (k r : Option Certificate) → r ≡ None → stepped x k r ≡ None
no_later None k r e = refl
no_later (Some t) None r e = refl
no_later (Some t) (Some c) r e = ap (option_map (then t c)) e

pub unscoped_through : {A B : Type 0} (x : Option A) (y : Option B) (e : RuleFault) → (x ≡ None → y ≡ None) → IsUnscoped x e → IsUnscoped y e
unscoped_through x y fault.NoMemory f h = tt
unscoped_through x y (fault.Cause k) f h = (h.0, f h.1)

abbrev pub make_linear : List TermTree → List (ℤ × TermTree) → Certificate
make_linear ts rs = linear (record { sums = ts; rows = rs })

pub scoped_known : IsScoped (Some (by known))
scoped_known = (by known, refl, All-nil (λ u. IsSome (sort_of u) × (numbers_are_words u ≡ true)))

pub scoped_compute : IsScoped (Some (by compute))
scoped_compute = (by compute, refl, All-nil (λ u. IsSome (sort_of u) × (numbers_are_words u ≡ true)))
