-- Terms put in for variables: in terms, and in assertions.
use Rattle.std.specs.Prelude.{◌≡◌, ℕ, Bool, false, ◌&&◌, if◌then◌else◌, List, [], ◌∷◌, ◌++◌, Some, map}
use Rattle.std.specs.Str.{bytes_eq}
use Rattle.std.specs.List.{list_any}
use Rattle.gv_terms.specs.declared.sort.Sort.{Sort}
use Rattle.gv_terms.specs.declared.sort.Sort.TheVariants as sort
use Rattle.gv_terms.specs.declared.tree.TermTree.{TermTree, fold-TermTree}
use Rattle.gv_terms.specs.declared.tree.TermTree.TheVariants as tree
use Rattle.gv_terms.specs.declared.tree.TermTree.TheOpen.{TermTree-F, Variable, Apply}
use Rattle.gv_terms.specs.declared.value.Binding.{Binding}
use Rattle.gv_terms.specs.declared.value.Env.{Env}
use Rattle.gv_terms.specs.declared.var.Var.{Var}
use Rattle.gv_terms.specs.Sorts.{sort_eq}
use Rattle.gv_terms.specs.Trees.{sort_of, value_under}
use Rattle.gv_atomic.specs.Choices.{binds}
use Rattle.gv_assertions.specs.Atoms.{Atom, Owns, Slice, Spare, Instance, Each}

-- a variable with the term that is put in for it
pub record Given : Type 0 where
  pub var : Var
  pub term : TermTree

-- each term has its variable's sort
abbrev pub AreSorted : List Given → Type 0
AreSorted [] = Unit {0}
AreSorted (g ∷ given) = (sort_of g.term ≡ Some g.var.sort) × AreSorted given

-- the term for a variable, or the variable itself where there is none
abbrev pub term_for : List Given → List ℕ → Sort → TermTree
term_for [] n s = tree.Variable n s
term_for (g ∷ given) n s = if bytes_eq g.var.name n && sort_eq g.var.sort s then g.term else term_for given n s

-- ---- terms

-- of one level, over what became of the parts
abbrev pub put_here : List Given → TermTree-F TermTree → TermTree
put_here given (Variable n s) = term_for given n s
put_here given (Apply o parts) = tree.Apply o parts

-- the tree with terms put in for its variables
unfoldable pub put_in : List Given → TermTree → TermTree
put_in given = fold-TermTree TermTree (put_here given)

-- whether a variable stands in a tree
abbrev pub stands_here : List ℕ → Sort → TermTree-F Bool → Bool
stands_here n s (Variable m r) = bytes_eq m n && sort_eq r s
stands_here n s (Apply o parts) = list_any (λ b. b) parts

unfoldable pub stands_in : List ℕ → Sort → TermTree → Bool
stands_in n s = fold-TermTree Bool (stands_here n s)

-- a valuation that gives each variable the value of its term, and every other its own
abbrev pub binding_of : Env → Given → Binding
binding_of env g = record { name = g.var.name; value = value_under env g.term }

abbrev pub given_under : List Given → Env → Env
given_under given env = binds (map (binding_of env) given ++ env.bindings)

-- ---- assertions

abbrev pub put_in_all : List Given → List TermTree → List TermTree
put_in_all given ts = map (put_in given) ts

-- a bound number is no variable, and stays
abbrev pub put_in_atom : List Given → Atom → Atom
put_in_atom given (Owns k key value) = Owns k (put_in_all given key) (put_in_all given value)
put_in_atom given (Slice frozen s items) = Slice frozen (put_in given s) (put_in given items)
put_in_atom given (Spare s) = Spare (put_in given s)
put_in_atom given (Instance number args) = Instance number (put_in_all given args)
put_in_atom given (Each index low high except a) = Each index (put_in given low) (put_in given high) (put_in_all given except) (put_in_atom given a)

abbrev pub put_in_atoms : List Given → List Atom → List Atom
put_in_atoms given all = map (put_in_atom given) all

-- the number that is bound under a name is none of the variables, and stands in none of the terms
abbrev pub IsApart : List ℕ → List Given → Type 0
IsApart index [] = Unit {0}
IsApart index (g ∷ given) = ((bytes_eq g.var.name index && sort_eq g.var.sort sort.Word) ≡ false) × (stands_in index sort.Word g.term ≡ false) × IsApart index given

-- every bound number of an assertion is
abbrev pub AreApart : List Given → Atom → Type 0
AreApart given (Each index low high except a) = IsApart index given × AreApart given a
AreApart given _ = Unit {0}

abbrev pub AreAllApart : List Given → List Atom → Type 0
AreAllApart given [] = Unit {0}
AreAllApart given (a ∷ all) = AreApart given a × AreAllApart given all
