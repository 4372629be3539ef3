-- The predicates of the logic that declared ones are.
use Rattle.std.specs.Prelude.{◌≡◌, ℕ, ◌<◌, List, [], ◌∷◌, ◌++◌, map, slice_get, Some}
use Rattle.std.specs.Option.{unwrap_or}
use Rattle.gv_terms.specs.declared.tree.TermTree.{TermTree}
use Rattle.gv_terms.specs.declared.tree.RawTerm.{RawTerm}
use Rattle.gv_terms.specs.declared.var.Var.{Var}
use Rattle.gv_terms.specs.Resolving.{resolved}
use Rattle.gv_assertions.specs.Atoms as logic
use Rattle.gv_assertions.specs.Atoms.{Predicate}
use Rattle.gv_instances.specs.Agreeing.{number_var}
use Rattle.gv_instances.specs.Alike.{renaming}
use Rattle.gv_instances.specs.Instances.{put_in}
use Rattle.gv_seats.specs.Paths.{number}
use Rattle.gv_commands.specs.declared.atom.Simple.{Simple}
use Rattle.gv_commands.specs.declared.atom.Simple.TheVariants as simple
use Rattle.gv_commands.specs.declared.atom.Each.{Each}
use Rattle.gv_commands.specs.declared.atom.Atom.{Atom}
use Rattle.gv_commands.specs.declared.atom.Atom.TheVariants as atom
use Rattle.gv_commands.specs.declared.decls.Item.{Item}
use Rattle.gv_commands.specs.declared.decls.Item.TheVariants as item
use Rattle.gv_commands.specs.declared.decls.Case.{Case}
use Rattle.gv_commands.specs.declared.decls.Pred.{Pred}
use Rattle.gv_asserts.specs.Atoms.{map_simple, assertion_of, bound}

-- The tree that a term stands for among variables. Where it stands for none, which no command lets pass that would use it, any will do.
abbrev pub tree_among : List Var → RawTerm → TermTree
tree_among vars t = unwrap_or (resolved vars t) (number 0)

-- within a range its number has the name as it was written, whatever else bears it
abbrev pub tree_within : List Var → List ℕ → RawTerm → TermTree
tree_within vars index t = put_in (renaming index bound) (tree_among (number_var index ∷ vars) t)

abbrev pub range_among : List Var → Each RawTerm → logic.Atom
range_among vars e = logic.Each bound (tree_among vars e.low) (tree_among vars e.high) (map (tree_among vars) e.except)
    (assertion_of (map_simple (tree_within vars e.index) e.body))

abbrev pub atom_among : List Var → Atom RawTerm → logic.Atom
atom_among vars (atom.Simple a) = assertion_of (map_simple (tree_among vars) a)
atom_among vars (atom.Each e) = range_among vars e

abbrev pub item_among : List Var → Item → logic.Item
item_among vars (item.Fact f) = logic.Fact (tree_among vars f)
item_among vars (item.Atom a) = logic.Owned (atom_among vars a)

abbrev pub case_of : List Var → Case → logic.Case
case_of params c = record { vars = c.vars; items = map (item_among (params ++ c.vars)) c.items }

abbrev pub predicate_of : Pred → Predicate
predicate_of p = record { params = p.params; cases = map (case_of p.params) p.cases }

abbrev pub predicates_of : List Pred → List Predicate
predicates_of preds = map predicate_of preds

-- ---- which predicates name which

abbrev pub simple_names : {A : Type 0} → Simple A → List ℕ
simple_names (simple.Instance i) = i.pred ∷ []
simple_names (simple.Lock mutex guarded) = guarded.pred ∷ []
simple_names _ = []

abbrev pub atom_names : {A : Type 0} → Atom A → List ℕ
atom_names (atom.Simple a) = simple_names a
atom_names (atom.Each e) = simple_names e.body

abbrev pub item_names : Item → List ℕ
item_names (item.Fact f) = []
item_names (item.Atom a) = atom_names a

-- a predicate names the one under a number, in an item of one of its cases
pub data Names (p : Pred) (m : ℕ) : Type 0 where
  names : (place at k : ℕ) (c : Case) (i : Item) → slice_get p.cases place ≡ Some c → slice_get c.items at ≡ Some i → slice_get (item_names i) k ≡ Some m → Names p m

-- each predicate names earlier ones alone
abbrev pub AreEarlier : List Pred → Type 0
AreEarlier preds = (n m : ℕ) (p : Pred) → slice_get preds n ≡ Some p → Names p m → m < n
