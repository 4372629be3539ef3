-- What the two commands say of a certificate that is there and proves, or doesn't.
use Rattle.std.proofs.Common.{◌≡◌, inr, List, Some, subst}
use Rattle.gv_terms.specs.declared.var.Var.{Var}
use Rattle.gv_terms.specs.declared.term.Term.{Term}
use Rattle.gv_terms.specs.declared.tree.RawTerm.{RawTerm}
use Rattle.gv_terms.specs.declared.tree.TermTree.{TermTree}
use Rattle.gv_terms.specs.Store.{AreIn, Grows}
use Rattle.std.proofs.Common.{get_or}
use Rattle.gv_axioms.specs.Truth.{IsTrueUnder}
use Rattle.gv_certs.specs.declared.cert.Cert.{Cert}
use Rattle.gv_certs.specs.declared.fault.RuleFault.{RuleFault}
use Rattle.gv_certs.specs.declared.fault.RuleFault.TheVariants as fault
use Rattle.gv_certs.specs.Laws.{falsum}
use Rattle.gv_certs.proofs.Truth.{proofs_are_true, absurd_is_true}
use Rattle.gv_have.specs.Scoping.{formula_of, certificate_of, Shows, ShowsAbsurd}
use Rattle.gv_have.specs.Telling.{IsScoped, IsProof, IsNoProof, IsFault, IsAbsurdFault, Follows, AreContradictory}
use Rattle.gv_have.proofs.Proofs.{grows_within}

module _ (vars : List Var) (F : List TermTree) (cert : Cert) where
  pub shown : (goal : RawTerm) (f : TermTree) → formula_of vars goal ≡ Some f → IsScoped (certificate_of vars cert) → IsProof (certificate_of vars cert) F f → Shows vars F goal cert
  shown goal f is (c, there, terms) p = (f, c, is, there, p c there)

  pub meant : (goal : RawTerm) (f : TermTree) → formula_of vars goal ≡ Some f → IsScoped (certificate_of vars cert) → IsProof (certificate_of vars cert) F f → Follows F (formula_of vars goal)
  meant goal f is (c, there, terms) p g also env valuation met =
      let same : f ≡ g = cc in
      subst (IsTrueUnder env) same (proofs_are_true F f c terms (p c there) env valuation met)

  pub refused : (goal : RawTerm) (f : TermTree) (e : RuleFault) → formula_of vars goal ≡ Some f → IsScoped (certificate_of vars cert) → IsNoProof (certificate_of vars cert) F f e → IsFault vars F goal cert e
  refused goal f fault.NoMemory is scoped p = tt
  refused goal f (fault.Cause k) is (c, there, terms) p = inr (f, c, is, there, p c there)

  pub absurd_shown : IsScoped (certificate_of vars cert) → IsProof (certificate_of vars cert) F falsum → ShowsAbsurd vars F cert
  absurd_shown (c, there, terms) p = (c, there, p c there)

  pub absurd_meant : IsScoped (certificate_of vars cert) → IsProof (certificate_of vars cert) F falsum → AreContradictory F
  absurd_meant (c, there, terms) p env valuation met = absurd_is_true F c terms (p c there) env valuation met

  pub absurd_refused : (e : RuleFault) → IsScoped (certificate_of vars cert) → IsNoProof (certificate_of vars cert) F falsum e → IsAbsurdFault vars F cert e
  absurd_refused fault.NoMemory scoped p = tt
  absurd_refused (fault.Cause k) (c, there, terms) p = inr (c, there, p c there)

pub within_grown : (old new : List TermTree) (ts : List Term) → AreIn old ts → Grows old new → AreIn new ts
within_grown old new ts within grows = λ k d lt. grows_within old new (get_or ts k d) (within k d lt) grows

pub some_same : (f g : TermTree) → Some f ≡ Some g → f ≡ g
some_same f g e = cc
