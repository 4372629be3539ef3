-- How a term is valued: which nodes are valued, and which of their values are still kept.
use Rattle.std.specs.Prelude.{◌≡◌, ℕ, ◌<◌, ◌≤◌, ◌⊎◌, List, [], ◌∷◌, Option, Some, None, Contains, map, option_map, slice_index_or}
use Rattle.std.specs.BTreeMap as tree
use Rattle.std.specs.BTreeMap.{BTreeMap}
use Rattle.std.specs.List.{All}
use Rattle.std.specs.Option.{unwrap_or, IsSome}
use Rattle.std.specs.Ordering.{nat_cmp}
use Rattle.gv_terms.specs.declared.sort.Sort.TheVariants as sort
use Rattle.gv_terms.specs.declared.operator.Operator.TheVariants as op
use Rattle.gv_terms.specs.declared.tree.Head.TheVariants as head
use Rattle.gv_terms.specs.declared.tree.TermTree.{TermTree}
use Rattle.gv_terms.specs.declared.term.Term.{Term}
use Rattle.gv_terms.specs.declared.stored.Stored.{Stored}
use Rattle.gv_terms.specs.declared.value.Value.{Value}
use Rattle.gv_terms.specs.declared.value.Value.TheVariants as val
use Rattle.gv_terms.specs.declared.value.Env.{Env}
use Rattle.gv_terms.specs.declared.plan.Step.{Step}
use Rattle.gv_terms.specs.declared.live.Kept.{Kept}
use Rattle.gv_terms.specs.Trees.{value_under}
use Rattle.gv_terms.specs.Store.{tree_at}

-- the parts of the node with a number
abbrev pub some_node : Stored
some_node = record { head = head.Apply op.True; parts = []; sort = sort.Bool }

abbrev pub parts_at : List Stored → ℕ → List Term
parts_at ns k = (slice_index_or ns k some_node).parts

-- Which nodes are valued. A step values a node, and names the last that reads its value.

abbrev pub step : ℕ → ℕ → Step
step n l = record { node = n; last = l }

-- each values a lower node than the ones before it
abbrev pub Descends : List Step → Type 0
Descends [] = Unit {0}
Descends (s ∷ ss) = All (λ r. r.node < s.node) ss × Descends ss

-- the nodes that are valued: the root, and those of the steps
abbrev pub IsUser : ℕ → List Step → ℕ → Type 0
IsUser root ss u = (u ≡ root) ⊎ ((l : ℕ) × Contains ss (step u l))

-- a part of a node waits to be valued or has a value, as `readers` tells, or a step values it; and no
-- node after this one reads it
abbrev pub HasSource : List Step → (ℕ → Option ℕ) → ℕ → ℕ → Type 0
HasSource ss readers u p = (l : ℕ) × (u ≤ l) × ((readers p ≡ Some l) ⊎ Contains ss (step p l))

abbrev pub AreSupplied : List Stored → ℕ → List Step → (ℕ → Option ℕ) → Type 0
AreSupplied ns root ss readers = (u : ℕ) → IsUser root ss u → All (λ p. HasSource ss readers u p.id) (parts_at ns u)

-- the parts of a node wait now: those that did not wait before are read last by it
pub record Await (n : ℕ) (ps : List Term) (old new : ℕ → Option ℕ) : Type 0 where
  pub kept : (q l : ℕ) → old q ≡ Some l → new q ≡ Some l
  pub only : (q l : ℕ) → new q ≡ Some l → (old q ≡ Some l) ⊎ ((l ≡ n) × (q < n))
  pub there : All (λ p. IsSome (new p.id)) ps

-- who reads last what waits
abbrev pub awaited : BTreeMap ℕ ℕ → ℕ → Option ℕ
awaited m q = tree.get nat_cmp m q

-- Which values are kept.

abbrev pub readers : BTreeMap ℕ Kept → ℕ → Option ℕ
readers m q = option_map (λ e. e.last) (tree.get nat_cmp m q)

-- the value that is kept of a node
abbrev pub held : BTreeMap ℕ Kept → ℕ → Value
held m q = unwrap_or (option_map (λ e. e.value) (tree.get nat_cmp m q)) val.Unit

abbrev pub held_all : BTreeMap ℕ Kept → List Term → List Value
held_all m ps = map (λ p. held m p.id) ps

abbrev pub AreHeld : BTreeMap ℕ Kept → List Term → Type 0
AreHeld m ps = All (λ p. IsSome (tree.get nat_cmp m p.id)) ps

-- only values are given up that this node reads last
abbrev pub Loses : ℕ → BTreeMap ℕ Kept → BTreeMap ℕ Kept → Type 0
Loses n old new = (q : ℕ) → (tree.get nat_cmp new q ≡ tree.get nat_cmp old q) ⊎ ((tree.get nat_cmp new q ≡ None) × (readers old q ≡ Some n))

-- each value that is kept is that of its node
abbrev pub AreRight : Env → List TermTree → BTreeMap ℕ Kept → Type 0
AreRight env ts m = (q : ℕ) (e : Kept) → tree.get nat_cmp m q ≡ Some e → e.value ≡ value_under env (tree_at ts q)
