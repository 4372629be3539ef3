-- What a check of premises tells.
use Rattle.std.specs.Prelude.{ℕ, List}
use Rattle.gv_certs.specs.declared.fault.RuleFault.{RuleFault}
use Rattle.gv_certs.specs.declared.fault.RuleFault.TheVariants as fault
use Rattle.gv_certs.specs.Proving.{Premise, Leaf, by_axiom, subst_in, subst, contra, premises, FirstFails}
use Rattle.gv_terms.specs.declared.term.Term.{Term}
use Rattle.gv_terms.specs.declared.tree.TermTree.{TermTree}
use Rattle.gv_terms.specs.Store.{tree_at, trees_at}

-- memory was refused, or this is the cause of the first premise that fails
abbrev pub IsFault : List Premise → RuleFault → Type 0
IsFault ps fault.NoMemory = Unit {0}
IsFault ps (fault.Cause k) = FirstFails ps k

-- what a certificate of a goal asks, over terms of a store
abbrev pub asked_of : List TermTree → List Term → Term → Leaf → List Premise
asked_of store facts goal leaf = premises (trees_at store facts) (tree_at store goal.id) leaf

-- certificates over terms of a store
abbrev pub axiom_of : List TermTree → ℕ → List Term → Leaf
axiom_of store number parts = by_axiom number (trees_at store parts)

abbrev pub equals_in : List TermTree → Term → Term → Term → Leaf
equals_in store a b g = subst_in (tree_at store a.id) (tree_at store b.id) (tree_at store g.id)

abbrev pub equals_of : List TermTree → Term → Term → Leaf
equals_of store a b = subst (tree_at store a.id) (tree_at store b.id)

abbrev pub opposites_of : List TermTree → Term → Leaf
opposites_of store g = contra (tree_at store g.id)
