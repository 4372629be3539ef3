-- What a refusal that is handed on says, and the test for formulas.
use Rattle.std.proofs.Common.{◌≡◌, Option, None, Bool, sym, ◌∙◌, rules}
use Rattle.std.specs.Prelude.{Result, Ok, Err, IfErr, IsErrAnd}
use Rattle.gv_terms.specs.declared.sort.Sort.{Sort}
use Rattle.gv_terms.specs.declared.sort.Sort.TheVariants as sort
use Rattle.gv_terms.specs.contracts.sort.SortPartialEq.TheImpl.{eq-value}
use Rattle.gv_terms.specs.Sorts.{sort_eq}
use Rattle.gv_axioms.specs.declared.fault.AxiomFault.{AxiomFault}
use Rattle.gv_axioms.specs.declared.fault.AxiomFault.TheVariants as fault

-- a refusal that is handed on, where the whole finds nothing because a part of it does
pub bad_kept : {A X Y : Type 0} (r : Result A AxiomFault) (e : AxiomFault) (part : Option X) (all : Option Y) → IsErrAnd r (λ x. x ≡ e) → (e ≡ fault.BadAxiom → part ≡ None) → (part ≡ None → all ≡ None)
    → IfErr r (λ x. x ≡ fault.BadAxiom → all ≡ None)
bad_kept (Ok x) e part all h p f = tt
bad_kept (Err x) e part all h p f = λ bad. f (p (sym h ∙ bad))

is_bool : (s : Sort) → sort_eq s sort.Bool ≡ (eq-value).it s sort.Bool
is_bool s = search rules

pub same_bool : (s : Sort) (b : Bool) → b ≡ (eq-value).it s sort.Bool → sort_eq s sort.Bool ≡ b
same_bool s b e = is_bool s ∙ sym e
