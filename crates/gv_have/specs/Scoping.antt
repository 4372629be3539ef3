-- Which certificate over formulas one as it was read stands for among variables, and what it comes to.
use Rattle.std.specs.Prelude.{◌≡◌, ◌⊎◌, ℕ, List, [], ◌∷◌, map, Option, Some, None, option_map, ℤ}
use Rattle.gv_terms.specs.declared.var.Var.{Var}
use Rattle.gv_terms.specs.declared.tree.RawTerm.{RawTerm}
use Rattle.gv_terms.specs.declared.tree.TermTree.{TermTree}
use Rattle.gv_terms.specs.Resolving.{resolved, all_there, if_sorted}
use Rattle.gv_axioms.specs.Filling.{with_some, as_formula}
use Rattle.gv_certs.specs.declared.cause.Cause.{Cause}
use Rattle.gv_certs.specs.declared.cause.Cause.TheVariants as cause
use Rattle.gv_certs.specs.declared.cert.Factored.{Factored}
use Rattle.gv_certs.specs.declared.cert.Cert.{Cert, fold-Cert}
use Rattle.gv_certs.specs.declared.cert.Cert.TheOpen as read
use Rattle.gv_certs.specs.declared.cert.Cert.TheOpen.{Cert-F, Have-F}
use Rattle.gv_certs.specs.Laws.{falsum}
use Rattle.gv_certs.specs.Trees.{equation}
use Rattle.gv_certs.specs.Proving.{Certificate, by, linear, cases, then, known, compute, by_axiom, subst_in, subst, contra, Proves, Fails}

-- the formula that a term stands for
abbrev pub formula_of : List Var → RawTerm → Option TermTree
formula_of vars t = with_some (resolved vars t) as_formula

abbrev pub terms_of : List Var → List RawTerm → Option (List TermTree)
terms_of vars ts = all_there (map (resolved vars) ts)

abbrev pub both_of : Option TermTree → Option TermTree → Option (TermTree × TermTree)
both_of a b = with_some a (λ t. option_map (λ u. (t, u)) b)

abbrev pub if_equated : TermTree × TermTree → Option (TermTree × TermTree)
if_equated p = option_map (λ t. p) (if_sorted (equation p.0 p.1))

-- two terms whose equation has a sort
abbrev pub sides_of : List Var → RawTerm → RawTerm → Option (TermTree × TermTree)
sides_of vars a b = with_some (both_of (resolved vars a) (resolved vars b)) if_equated

-- rows with their factors
abbrev pub rows_of : List Var → List Factored → Option (List (ℤ × TermTree))
rows_of vars [] = Some []
rows_of vars (r ∷ rs) = with_some (formula_of vars r.formula) (λ f. option_map (λ fs. (r.factor, f) ∷ fs) (rows_of vars rs))

-- one step after another, then the last certificate
abbrev pub steps_of : List (Option (TermTree × Certificate)) → Option Certificate → Option Certificate
steps_of [] last = last
steps_of (s ∷ ss) last = with_some s (λ p. option_map (then p.0 p.1) (steps_of ss last))

-- what each form stands for, where its terms have the sorts of their places
abbrev pub axiom_in : List Var → ℕ → List RawTerm → Option Certificate
axiom_in vars number parts = option_map (λ ts. by (by_axiom number ts)) (terms_of vars parts)

abbrev pub equals_in : List Var → RawTerm → RawTerm → RawTerm → Option Certificate
equals_in vars a b g = with_some (sides_of vars a b) (λ p. option_map (λ f. by (subst_in p.0 p.1 f)) (formula_of vars g))

abbrev pub equals : List Var → RawTerm → RawTerm → Option Certificate
equals vars a b = option_map (λ p. by (subst p.0 p.1)) (sides_of vars a b)

abbrev pub opposites : List Var → RawTerm → Option Certificate
opposites vars g = option_map (λ f. by (contra f)) (formula_of vars g)

abbrev pub sum_in : List Var → List RawTerm → List Factored → Option Certificate
sum_in vars sums rows = with_some (terms_of vars sums) (λ ts. option_map (λ rs. linear (record { sums = ts; rows = rs })) (rows_of vars rows))

abbrev pub cases_in : Option TermTree → Option Certificate → Option Certificate → Option Certificate
cases_in g holds fails = with_some g (λ f. with_some holds (λ c. option_map (cases f c) fails))

abbrev pub step_in : Option TermTree → Option Certificate → Option (TermTree × Certificate)
step_in formula cert = with_some formula (λ f. option_map (λ c. (f, c)) cert)

-- of one level, over the certificates in it
abbrev pub cert_here : List Var → Cert-F (Option Certificate) (Option (TermTree × Certificate)) → Option Certificate
cert_here vars read.Known = Some (by known)
cert_here vars read.Compute = Some (by compute)
cert_here vars (read.Axiom number parts) = axiom_in vars number parts
cert_here vars (read.SubstIn a b g) = equals_in vars a b g
cert_here vars (read.Subst a b) = equals vars a b
cert_here vars (read.Contra g) = opposites vars g
cert_here vars (read.Linear sums rows) = sum_in vars sums rows
cert_here vars (read.Cases g holds fails) = cases_in (formula_of vars g) holds.value fails.value
cert_here vars (read.Steps steps last) = steps_of steps last.value

abbrev pub have_here : List Var → Have-F (Option Certificate) (Option (TermTree × Certificate)) → Option (TermTree × Certificate)
have_here vars h = step_in (formula_of vars h.formula) h.cert

-- the certificate that one as it was read stands for, where each variable is there and each term has the sort of its place
unfoldable pub certificate_of : List Var → Cert → Option Certificate
certificate_of vars = fold-Cert (Option Certificate) (Option (TermTree × Certificate)) (cert_here vars) (have_here vars)

-- it shows the formula from the facts
abbrev pub Shows : List Var → List TermTree → RawTerm → Cert → Type 0
Shows vars facts goal cert =
    (f : TermTree) × (c : Certificate) × (formula_of vars goal ≡ Some f) × (certificate_of vars cert ≡ Some c) × Proves facts f c

-- the terms are tested before all premises
abbrev pub IsRefused : List Var → List TermTree → RawTerm → Cert → Cause → Type 0
IsRefused vars facts goal cert k =
    ((k ≡ cause.Scope) × ((formula_of vars goal ≡ None) ⊎ (certificate_of vars cert ≡ None)))
    ⊎ ((f : TermTree) × (c : Certificate) × (formula_of vars goal ≡ Some f) × (certificate_of vars cert ≡ Some c) × Fails facts f c k)

-- a certificate of `false` shows it from the facts
abbrev pub ShowsAbsurd : List Var → List TermTree → Cert → Type 0
ShowsAbsurd vars facts cert = (c : Certificate) × (certificate_of vars cert ≡ Some c) × Proves facts falsum c

abbrev pub IsAbsurdRefused : List Var → List TermTree → Cert → Cause → Type 0
IsAbsurdRefused vars facts cert k =
    ((k ≡ cause.Scope) × (certificate_of vars cert ≡ None))
    ⊎ ((c : Certificate) × (certificate_of vars cert ≡ Some c) × Fails facts falsum c k)
