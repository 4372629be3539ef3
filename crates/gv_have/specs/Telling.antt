-- What the check of a certificate as it was read tells.
use Rattle.std.specs.Prelude.{◌≡◌, List, Option, Some, None}
use Rattle.std.specs.List.{All}
use Rattle.gv_terms.specs.declared.var.Var.{Var}
use Rattle.gv_terms.specs.declared.term.Term.{Term}
use Rattle.gv_terms.specs.declared.tree.RawTerm.{RawTerm}
use Rattle.gv_terms.specs.declared.tree.TermTree.{TermTree}
use Rattle.gv_terms.specs.declared.value.Env.{Env}
use Rattle.gv_terms.specs.Ranges.{IsValuation}
use Rattle.gv_terms.specs.Store.{tree_at, trees_at}
use Rattle.gv_axioms.specs.Truth.{IsTrueUnder}
use Rattle.gv_certs.specs.declared.cause.Cause.TheVariants as cause
use Rattle.gv_certs.specs.declared.cert.Cert.{Cert}
use Rattle.gv_certs.specs.declared.fault.RuleFault.{RuleFault}
use Rattle.gv_certs.specs.declared.fault.RuleFault.TheVariants as fault
use Rattle.gv_certs.specs.Laws.{HasTerms}
use Rattle.gv_certs.specs.Proving.{Certificate, with_fact, Proves}
use Rattle.gv_sums.specs.Telling.{IsFailure}
use Rattle.gv_have.specs.Scoping.{IsRefused, IsAbsurdRefused}

-- ---- terms

-- memory was refused, or there is none, and the cause is Scope
abbrev pub IsUnscoped : {A : Type 0} → Option A → RuleFault → Type 0
IsUnscoped o fault.NoMemory = Unit {0}
IsUnscoped o (fault.Cause k) = (k ≡ cause.Scope) × (o ≡ None)

-- there is one, and its terms have sorts, and numbers that are words
abbrev pub IsScoped : Option Certificate → Type 0
IsScoped o = (c : Certificate) × (o ≡ Some c) × HasTerms c

-- ---- certificates that may be none

-- the certificate, where there is one, proves the formula
abbrev pub IsProof : Option Certificate → List TermTree → TermTree → Type 0
IsProof o facts f = (c : Certificate) → o ≡ Some c → Proves facts f c

-- or its first premise that fails has this cause, if memory was not refused
abbrev pub IsNoProof : Option Certificate → List TermTree → TermTree → RuleFault → Type 0
IsNoProof o facts f e = (c : Certificate) → o ≡ Some c → IsFailure facts f c e

-- the same of facts and a formula that are terms of a store
abbrev pub IsProofAt : Option Certificate → List TermTree → List Term → Term → Type 0
IsProofAt o st facts goal = IsProof o (trees_at st facts) (tree_at st goal.id)

abbrev pub IsNoProofAt : Option Certificate → List TermTree → List Term → Term → RuleFault → Type 0
IsNoProofAt o st facts goal e = IsNoProof o (trees_at st facts) (tree_at st goal.id) e

-- ---- the whole

-- memory was refused, or this is the cause of what fails first, the terms tested before all premises
abbrev pub IsFault : List Var → List TermTree → RawTerm → Cert → RuleFault → Type 0
IsFault vars facts goal cert fault.NoMemory = Unit {0}
IsFault vars facts goal cert (fault.Cause k) = IsRefused vars facts goal cert k

-- the same of a certificate of `false`
abbrev pub IsAbsurdFault : List Var → List TermTree → Cert → RuleFault → Type 0
IsAbsurdFault vars facts cert fault.NoMemory = Unit {0}
IsAbsurdFault vars facts cert (fault.Cause k) = IsAbsurdRefused vars facts cert k

-- every valuation that meets the facts meets a formula
abbrev pub Follows : List TermTree → Option TermTree → Type 0
Follows facts o = (f : TermTree) → o ≡ Some f → (env : Env) → IsValuation env → All (IsTrueUnder env) facts → IsTrueUnder env f

-- the formula is a fact besides, behind the others
abbrev pub IsAdded : List TermTree → Option TermTree → List TermTree → Type 0
IsAdded facts o more = (f : TermTree) → o ≡ Some f → more ≡ with_fact facts f

-- no valuation meets the facts
abbrev pub AreContradictory : List TermTree → Type 0
AreContradictory facts = (env : Env) → IsValuation env → All (IsTrueUnder env) facts → ⊥
