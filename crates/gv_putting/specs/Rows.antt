-- Rows of rules about writes of slices: what a path must be like, and which path comes of it.
use Rattle.std.specs.Prelude.{◌≡◌, false, List, [], ◌∷◌, Some}
use Rattle.gv_base.specs.declared.answers.Place.{Place}
use Rattle.gv_terms.specs.declared.sort.Sort.{Sort}
use Rattle.gv_terms.specs.declared.sort.Sort.TheVariants as sort
use Rattle.gv_terms.specs.declared.operator.Operator.TheVariants as op
use Rattle.gv_terms.specs.declared.tree.TermTree.{TermTree}
use Rattle.gv_terms.specs.declared.tree.TermTree.TheVariants as tree
use Rattle.gv_terms.specs.Trees.{sort_of}
use Rattle.gv_lang.specs.declared.program.ItemKind.{ItemKind}
use Rattle.gv_lang.specs.declared.program.ItemKind.TheVariants as item
use Rattle.gv_lang.specs.Tree.{Expr, Put, Do}
use Rattle.gv_lang.specs.Todo.{Todo, Run}
use Rattle.gv_assertions.specs.Atoms.{Atom, Slice}
use Rattle.gv_seats.specs.Paths.{Path, term_of, goes_on}
use Rattle.gv_rules.specs.Rows.{MayWrite, Replaces}
use Rattle.gv_giving.specs.Rows.{AreKnown}
use Rattle.gv_slicing.specs.Rows.{one_of, less, list_sort}

-- the sort of one such item, as a local holds it
abbrev pub one_sort : ItemKind → Sort
one_sort item.Byte = sort.Word
one_sort item.Word = sort.Word
one_sort item.Ref = sort.Ref

-- the list with another item
abbrev pub updated : TermTree → TermTree → TermTree → TermTree
updated t n v = tree.Apply op.Upd (t ∷ n ∷ v ∷ [])

-- an item of a slice that is owned, where it is known to have one under the number, gets the expression's term
pub data Puts (h : Path) : Path → Type 0 where
  puts : (e i y : Expr) (s t n v : TermTree) (k : ItemKind) (atoms : List Atom) (place : Place) (rest : Todo) → MayWrite h
      → h.todo ≡ Run (Do (Put e i y) place) ∷ rest → term_of h.locals e ≡ Some s → sort_of s ≡ Some sort.SliceS
      → term_of h.locals i ≡ Some n → sort_of n ≡ Some sort.Word → term_of h.locals y ≡ Some v → sort_of v ≡ Some (one_sort k) → sort_of t ≡ Some (list_sort k)
      → AreKnown h (less n (one_of op.Len t) ∷ [])
      → Replaces h.atoms (Slice false s t) (Slice false s (updated t n v)) atoms
      → Puts h (goes_on h rest h.locals atoms)
