-- Rows of rules about appends: what a path must be like, and which path comes of it.
use Rattle.std.specs.Prelude.{◌≡◌, ℕ, true, false, List, [], ◌∷◌, ◌++◌, Some, slice_set}
use Rattle.gv_base.specs.declared.answers.Place.{Place}
use Rattle.gv_terms.specs.declared.sort.Sort.TheVariants as sort
use Rattle.gv_terms.specs.declared.operator.Operator.{Operator}
use Rattle.gv_terms.specs.declared.operator.Operator.TheVariants as op
use Rattle.gv_terms.specs.declared.tree.TermTree.{TermTree}
use Rattle.gv_terms.specs.declared.tree.TermTree.TheVariants as tree
use Rattle.gv_terms.specs.declared.var.Var.{Var}
use Rattle.gv_terms.specs.Ranges.{numbers_are_words}
use Rattle.gv_terms.specs.Trees.{sort_of}
use Rattle.gv_lang.specs.declared.program.ItemKind.{ItemKind}
use Rattle.gv_lang.specs.declared.program.ItemKind.TheVariants as item
use Rattle.gv_lang.specs.Tree.{Expr, Append, Do}
use Rattle.gv_lang.specs.Todo.{Todo, Run}
use Rattle.gv_assertions.specs.Atoms.{Atom, Slice, Spare, Takes}
use Rattle.gv_seats.specs.Paths.{Path, term_of, number, goes_on}
use Rattle.gv_seats.specs.Scoping.{AreNew, variable}
use Rattle.gv_rules.specs.Rows.{MayWrite, IsLocal}
use Rattle.gv_giving.specs.Rows.{AreKnown}
use Rattle.gv_slicing.specs.Rows.{one_of, equal, less, list_sort}
use Rattle.gv_putting.specs.Rows.{one_sort}

-- as many items as a slice may have
abbrev pub most_items : ℕ
most_items = 9223372036854775807

-- what makes a list of so many copies of an item
abbrev pub maker : ItemKind → ℕ → Operator
maker item.Byte n = op.Bytes n
maker item.Word n = op.Words n
maker item.Ref n = op.Refs n

-- the list with one item more
abbrev pub with_one : TermTree → ItemKind → TermTree → TermTree
with_one t k v = tree.Apply op.Cat (t ∷ one_of (maker k 1) v ∷ [])

abbrev pub one_more : TermTree → TermTree
one_more n = tree.Apply op.Plus (n ∷ number 1 ∷ [])

-- x is a slice of the old items and the new one, with spare cells or without, and may be the old slice or a new one
abbrev pub appended_path : Path → Todo → (x : ℕ) → List Atom → Var → TermTree → ItemKind → TermTree → Path
appended_path h rest x left q t k v = record (goes_on h rest (slice_set h.locals x (Some (variable q)))
    (left ++ Slice false (variable q) (with_one t k v) ∷ Spare (variable q) ∷ []))
    { vars = q ∷ h.vars; facts = h.facts ++ equal (one_of op.SLen (variable q)) (one_more (one_of op.Len t)) ∷ [] }

-- an append takes the slice's cells and its spare cells
pub data Appends (h : Path) : Path → Type 0 where
  appends : (x : ℕ) (k : ItemKind) (e y : Expr) (s t v : TermTree) (without left : List Atom) (q : Var) (place : Place) (rest : Todo) → MayWrite h
      → h.todo ≡ Run (Do (Append x k e y) place) ∷ rest → IsLocal h x → term_of h.locals e ≡ Some s → sort_of s ≡ Some sort.SliceS → numbers_are_words s ≡ true
      → term_of h.locals y ≡ Some v → sort_of v ≡ Some (one_sort k) → sort_of t ≡ Some (list_sort k)
      → Takes h.atoms (Slice false s t) without → Takes without (Spare s) left
      → AreKnown h (less (one_of op.Len t) (number most_items) ∷ [])
      → q.sort ≡ sort.SliceS → AreNew h.vars (q ∷ [])
      → Appends h (appended_path h rest x left q t k v)
