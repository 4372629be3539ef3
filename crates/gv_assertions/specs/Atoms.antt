-- Assertions: what a path of a proof knows that it owns. Their terms speak of the path's variables.
use Rattle.std.specs.Prelude.{ℕ, Bool, List, [], ◌∷◌}
use Rattle.gv_terms.specs.declared.tree.TermTree.{TermTree}
use Rattle.gv_terms.specs.declared.var.Var.{Var}
use Rattle.gv_resources.specs.Kinds.{Kind}

pub data Atom : Type 0 where
  -- one resource of a kind: the terms of its key, and of its value; the key of a struct's cell tells the struct's number besides, behind the object
  Owns : Kind → (key value : List TermTree) → Atom
  -- the cells of a slice, with the items of a list; owned, or read-only
  Slice : (frozen : Bool) → (slice items : TermTree) → Atom
  -- the spare cells of a slice, whatever they hold
  Spare : TermTree → Atom
  -- one of the cases of a predicate, by its number, at these arguments
  Instance : ℕ → List TermTree → Atom
  -- for each number from one on and below another, but for some, an assertion that speaks of it under a name
  Each : (index : List ℕ) → (low high : TermTree) → (except : List TermTree) → Atom → Atom

-- an item of a case: a fact, or something that is owned
pub data Item : Type 0 where
  Fact : TermTree → Item
  Owned : Atom → Item

abbrev pub facts_of : List Item → List TermTree
facts_of [] = []
facts_of (Fact f ∷ items) = f ∷ facts_of items
facts_of (Owned a ∷ items) = facts_of items

abbrev pub atoms_of : List Item → List Atom
atoms_of [] = []
atoms_of (Fact f ∷ items) = atoms_of items
atoms_of (Owned a ∷ items) = a ∷ atoms_of items

-- a case of a predicate: variables of its own, and what it says of them and of the predicate's parameters
pub record Case : Type 0 where
  pub vars : List Var
  pub items : List Item

pub record Predicate : Type 0 where
  pub params : List Var
  pub cases : List Case

-- a list with one item taken out
pub data Takes {A : Type 0} : List A → A → List A → Type 0 where
  here : {x : A} {xs : List A} → Takes (x ∷ xs) x xs
  there : {x y : A} {xs ys : List A} → Takes xs x ys → Takes (y ∷ xs) x (y ∷ ys)
