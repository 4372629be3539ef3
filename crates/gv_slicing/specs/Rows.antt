-- Rows of rules about slices: what a path must be like, and which path comes of it.
use Rattle.std.specs.Prelude.{◌≡◌, ℕ, Bool, true, false, List, [], ◌∷◌, ◌++◌, Some, slice_set}
use Rattle.gv_base.specs.declared.answers.Place.{Place}
use Rattle.gv_terms.specs.declared.sort.Sort.{Sort}
use Rattle.gv_terms.specs.declared.sort.Sort.TheVariants as sort
use Rattle.gv_terms.specs.declared.operator.Operator.{Operator}
use Rattle.gv_terms.specs.declared.operator.Operator.TheVariants as op
use Rattle.gv_terms.specs.declared.tree.TermTree.{TermTree}
use Rattle.gv_terms.specs.declared.tree.TermTree.TheVariants as tree
use Rattle.gv_terms.specs.declared.var.Var.{Var}
use Rattle.gv_terms.specs.Meaning.{too_long}
use Rattle.gv_terms.specs.Scopes.{is_closed}
use Rattle.gv_terms.specs.Trees.{sort_of}
use Rattle.gv_lang.specs.declared.program.ItemKind.{ItemKind}
use Rattle.gv_lang.specs.declared.program.ItemKind.TheVariants as item
use Rattle.gv_lang.specs.Tree.{Expr, MakeSlice, At, Do}
use Rattle.gv_lang.specs.Todo.{Todo, Run}
use Rattle.gv_assertions.specs.Atoms.{Atom, Slice, Spare, Takes}
use Rattle.gv_seats.specs.Paths.{Path, term_of, number, goes_on}
use Rattle.gv_seats.specs.Scoping.{AreNew, variable}
use Rattle.gv_rules.specs.Rows.{MayStep, IsLocal}
use Rattle.gv_giving.specs.Rows.{AreKnown}

-- ---- terms and facts

abbrev pub one_of : Operator → TermTree → TermTree
one_of o a = tree.Apply o (a ∷ [])

abbrev pub equal : TermTree → TermTree → TermTree
equal a b = tree.Apply op.Equal (a ∷ b ∷ [])

-- ---- x = make([]T, n)

-- the sort of a list of such items
abbrev pub list_sort : ItemKind → Sort
list_sort item.Byte = sort.Bytes
list_sort item.Word = sort.Words
list_sort item.Ref = sort.Refs

abbrev pub less : TermTree → TermTree → TermTree
less a b = tree.Apply op.Less (a ∷ b ∷ [])

-- what is known of a new slice of so many zeros
abbrev pub zero_facts : TermTree → TermTree → TermTree → List TermTree
zero_facts s z n = equal (one_of op.Len z) n ∷ one_of op.IsZero z ∷ equal (one_of op.SLen s) n ∷ equal (one_of op.SCap s) n ∷ []

abbrev pub made_path : Path → Todo → (x : ℕ) → (s z : Var) → TermTree → Path
made_path h rest x s z n = record (goes_on h rest (slice_set h.locals x (Some (variable s)))
    (h.atoms ++ Slice false (variable s) (variable z) ∷ Spare (variable s) ∷ [])) { vars = s ∷ z ∷ h.vars; facts = h.facts ++ zero_facts (variable s) (variable z) n }

-- a new slice of zeros, whose length is no literal
pub data MakesSlice (h : Path) : Path → Type 0 where
  makes : (x : ℕ) (item : ItemKind) (e : Expr) (n : TermTree) (s z : Var) (place : Place) (rest : Todo) → MayStep h
      → h.todo ≡ Run (Do (MakeSlice x item e) place) ∷ rest → IsLocal h x → term_of h.locals e ≡ Some n → sort_of n ≡ Some sort.Word → is_closed h.vars n ≡ true
      → AreKnown h (less n (number too_long) ∷ []) → s.sort ≡ sort.SliceS → z.sort ≡ list_sort item → AreNew h.vars (s ∷ z ∷ [])
      → MakesSlice h (made_path h rest x s z n)

-- ---- x = s[i]

-- an item of a slice that is owned or read-only, where it is known to have one under the number
pub data ReadsItem (h : Path) : Path → Type 0 where
  items : (x : ℕ) (e i : Expr) (s t n : TermTree) (frozen : Bool) (left : List Atom) (place : Place) (rest : Todo) → MayStep h
      → h.todo ≡ Run (Do (At x e i) place) ∷ rest → IsLocal h x → term_of h.locals e ≡ Some s → sort_of s ≡ Some sort.SliceS
      → term_of h.locals i ≡ Some n → sort_of n ≡ Some sort.Word → Takes h.atoms (Slice frozen s t) left → AreKnown h (less n (one_of op.Len t) ∷ [])
      → ReadsItem h (goes_on h rest (slice_set h.locals x (Some (tree.Apply op.At (t ∷ n ∷ [])))) h.atoms)
