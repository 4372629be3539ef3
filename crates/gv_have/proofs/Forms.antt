-- What each form of a certificate as it was read stands for.
use Rattle.std.proofs.Common.{◌≡◌, ℕ, ◌+◌, ◌<◌, ◌≤◌, List, ◌∷◌, map, length, drop, get_or, Box, Option, Some, option_map, sym, ap, ◌∙◌, rules}
use Rattle.std.proofs.lemmas.List.{drop_more, drop_all}
use Rattle.gv_axioms.specs.Filling.{with_some}
use Rattle.std.specs.declared.alloc.Global.{Global}
use Rattle.gv_terms.specs.declared.var.Var.{Var}
use Rattle.gv_terms.specs.declared.tree.RawTerm.{RawTerm}
use Rattle.gv_terms.specs.declared.tree.TermTree.{TermTree}
use Rattle.gv_certs.specs.declared.cert.Factored.{Factored}
use Rattle.gv_certs.specs.declared.cert.Have.{Have}
use Rattle.gv_certs.specs.declared.cert.Cert.{Cert, the_lemmas}
use Rattle.gv_certs.specs.declared.cert.Cert.TheVariants as cert
use Rattle.gv_certs.specs.Proving.{Certificate, by, known, compute, then}
use Rattle.gv_have.specs.Scoping.{formula_of, axiom_in, equals_in, equals, opposites, sum_in, cases_in, step_in, steps_of, certificate_of}

abbrev pub stepped : Option TermTree → Option Certificate → Option Certificate → Option Certificate
stepped x k r = with_some (step_in x k) (λ p. option_map (then p.0 p.1) r)

module _ (vars : List Var) where
  -- a step with its certificate
  abbrev pub step_of : Have → Option (TermTree × Certificate)
  step_of h = step_in (formula_of vars h.formula) (certificate_of vars h.cert)

  -- what steps and the last certificate stand for
  abbrev pub rest_of : List Have → Cert → Option Certificate
  rest_of steps last = steps_of (map step_of steps) (certificate_of vars last)

  pub known_is : certificate_of vars cert.Known ≡ Some (by known)
  unfolding certificate_of
  known_is = search (rules, the_lemmas)

  pub compute_is : certificate_of vars cert.Compute ≡ Some (by compute)
  unfolding certificate_of
  compute_is = search (rules, the_lemmas)

  pub axiom_is : (number : ℕ) (parts : List RawTerm) → certificate_of vars (cert.Axiom number parts) ≡ axiom_in vars number parts
  unfolding certificate_of
  axiom_is number parts = search (rules, the_lemmas)

  pub equals_in_is : (a b g : RawTerm) → certificate_of vars (cert.SubstIn a b g) ≡ equals_in vars a b g
  unfolding certificate_of
  equals_in_is a b g = search (rules, the_lemmas)

  pub equals_is : (a b : RawTerm) → certificate_of vars (cert.Subst a b) ≡ equals vars a b
  unfolding certificate_of
  equals_is a b = search (rules, the_lemmas)

  pub opposites_is : (g : RawTerm) → certificate_of vars (cert.Contra g) ≡ opposites vars g
  unfolding certificate_of
  opposites_is g = search (rules, the_lemmas)

  pub sum_is : (sums : List RawTerm) (rows : List Factored) → certificate_of vars (cert.Linear sums rows) ≡ sum_in vars sums rows
  unfolding certificate_of
  sum_is sums rows = search (rules, the_lemmas)

  pub cases_is : (g : RawTerm) (holds fails : Box Cert Global) → certificate_of vars (cert.Cases g holds fails) ≡ cases_in (formula_of vars g) (certificate_of vars holds.value) (certificate_of vars fails.value)
  unfolding certificate_of
  cases_is g holds fails = search (rules, the_lemmas)

  pub steps_is : (steps : List Have) (last : Box Cert Global) → certificate_of vars (cert.Steps steps last) ≡ rest_of steps last.value
  unfolding certificate_of
  steps_is steps last = search (rules, the_lemmas)

module _ (vars : List Var) (steps : List Have) (last : Cert) (i : ℕ) where
  -- a step, and what comes behind it
  pub step_here : (h : Have) → i < length steps → h ≡ get_or steps i h
      → rest_of vars (drop i steps) last ≡ stepped (formula_of vars h.formula) (certificate_of vars h.cert) (rest_of vars (drop (i + 1) steps) last)
  step_here h lt is = ap (λ hs. rest_of vars hs last) (drop_more steps i h lt ∙ ap (λ q. q ∷ drop (i + 1) steps) (sym is))

  pub no_more : length steps ≤ i → rest_of vars (drop i steps) last ≡ certificate_of vars last
  no_more le = ap (λ hs. rest_of vars hs last) (drop_all i steps le)

pub ruleset forms = (known_is, compute_is, axiom_is, equals_in_is, equals_is, opposites_is, sum_is, cases_is)
