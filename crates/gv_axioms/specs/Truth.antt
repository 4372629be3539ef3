-- Truth of formulas, and the law of the axioms.
use Rattle.std.specs.Prelude.{◌≡◌, List, true, Some, IsSome}
use Rattle.std.specs.List.{All}
use Rattle.gv_terms.specs.declared.tree.TermTree.{TermTree}
use Rattle.gv_terms.specs.declared.value.Value.TheVariants as val
use Rattle.gv_terms.specs.declared.value.Env.{Env}
use Rattle.gv_terms.specs.Trees.{sort_of, value_under}
use Rattle.gv_terms.specs.Ranges.{IsValuation, numbers_are_words}
use Rattle.gv_axioms.specs.Schema.{Axiom}
use Rattle.gv_axioms.specs.Instances.{over_parts}
use Rattle.gv_axioms.specs.Table.{table}

-- a formula is true under a valuation
abbrev pub IsTrueUnder : Env → TermTree → Type 0
IsTrueUnder env t = value_under env t ≡ val.Bool true

-- the premises are enough for the conclusion: under every valuation that meets them, it is met
abbrev pub Entails : List TermTree → TermTree → Type 0
Entails premises conclusion = (env : Env) → IsValuation env → All (IsTrueUnder env) premises → IsTrueUnder env conclusion

-- terms as stores have them: sorted, and with words as numbers
abbrev pub AreTerms : List TermTree → Type 0
AreTerms ts = All (λ t. IsSome (sort_of t) × (numbers_are_words t ≡ true)) ts

-- the axiom is true: under every valuation, of whatever parts, where its premises are true, so is what it gives
abbrev pub IsTrue : Axiom → Type 0
IsTrue a = (ts : List TermTree) (premises : List TermTree) (conclusion : TermTree) → AreTerms ts → over_parts ts a ≡ Some (premises, conclusion)
    → (env : Env) → IsValuation env → All (IsTrueUnder env) premises → IsTrueUnder env conclusion

-- each axiom of the table is
abbrev pub AxiomsAreTrue : Type 0
AxiomsAreTrue = All IsTrue table
