-- The instances of the axioms.
use Rattle.std.specs.Prelude.{ℕ, suc, List, [], ◌∷◌, Bool, true, false, Option, Some, None, slice_get, if◌then◌else◌}
use Rattle.gv_terms.specs.declared.sort.Sort.TheVariants as sort
use Rattle.gv_terms.specs.declared.tree.TermTree.{TermTree}
use Rattle.gv_terms.specs.declared.term.Term.{Term}
use Rattle.gv_terms.specs.Values.{is_sort}
use Rattle.gv_terms.specs.Store.{tree_at, trees_at}
use Rattle.gv_axioms.specs.declared.terms.Instance.{Instance}
use Rattle.gv_axioms.specs.Schema.{Axiom, Premise}
use Rattle.gv_axioms.specs.Filling.{with_some, sort_at, formula, all_fit}
use Rattle.gv_axioms.specs.Table.{table}

-- what stands for a term where there is none
abbrev pub no_term : Term
no_term = record { id = 0 }

-- the axiom with a number, of which the first is 1
abbrev pub numbered : ℕ → Option Axiom
numbered Prim.Native.Nat.zero = None
numbered (suc n) = slice_get table n

-- whether a premise is asked for of these parts
abbrev pub is_asked : List TermTree → Option ℕ → Bool
is_asked ts None = true
is_asked ts (Some i) = is_sort sort.Bytes (sort_at ts i)

-- a premise before those behind it, where it is asked for
abbrev pub asked_first : Bool → Option TermTree → Option (List TermTree) → Option (List TermTree)
asked_first false first rest = rest
asked_first true first rest = with_some first (λ t. with_some rest (λ us. Some (t ∷ us)))

-- the formulas of the premises that are asked for
abbrev pub asked : List TermTree → List Premise → Option (List TermTree)
asked ts [] = Some []
asked ts (p ∷ ps) = asked_first (is_asked ts p.bytes) (formula ts p.formula) (asked ts ps)

-- what an axiom asks of these parts, and what it gives, where they are what it wants
abbrev pub over_parts : List TermTree → Axiom → Option (List TermTree × TermTree)
over_parts ts a =
    if all_fit ts ts a.kinds
    then with_some (asked ts a.premises) (λ us. with_some (formula ts a.conclusion) (λ t. Some (us, t)))
    else None

-- the instance of the axiom with a number
abbrev pub instance_of : ℕ → List TermTree → Option (List TermTree × TermTree)
instance_of n ts = with_some (numbered n) (over_parts ts)

-- the trees of an instance that a store has
abbrev pub instance_trees : List TermTree → Instance → List TermTree × TermTree
instance_trees store i = (trees_at store i.premises, tree_at store i.conclusion.id)
