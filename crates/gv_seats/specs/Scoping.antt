-- What a path speaks of: its variables, and new ones.
use Rattle.std.specs.Prelude.{◌≡◌, ℕ, true, false, List, [], ◌∷◌, Some, slice_get}
use Rattle.gv_terms.specs.declared.sort.Sort.{Sort}
use Rattle.gv_terms.specs.declared.tree.TermTree.{TermTree}
use Rattle.gv_terms.specs.declared.tree.TermTree.TheVariants as tree
use Rattle.gv_terms.specs.declared.value.Env.{Env}
use Rattle.gv_terms.specs.declared.value.Value.{Value}
use Rattle.gv_terms.specs.declared.var.Var.{Var}
use Rattle.gv_terms.specs.Scopes.{is_among, is_closed}
use Rattle.gv_atomic.specs.Choices.{binds}
use Rattle.gv_instances.specs.Agreeing.{AreClosed, AreClosedAtoms}
use Rattle.gv_seats.specs.Paths.{Path}

-- all that a path tells speaks of its variables, and the variables that its block started with are among them
pub record IsScoped (h : Path) : Type 0 where
  pub locals : (x : ℕ) (t : TermTree) → slice_get h.locals x ≡ Some (Some t) → is_closed h.vars t ≡ true
  pub facts : AreClosed h.vars h.facts
  pub atoms : AreClosedAtoms h.vars h.atoms
  pub start : (n : List ℕ) (s : Sort) → is_among h.procedure.start n s ≡ true → is_among h.vars n s ≡ true

-- new variables: none bears the name of an earlier one, whatever its sort
abbrev pub AreNew : List Var → List Var → Type 0
AreNew vars [] = Unit {0}
AreNew vars (x ∷ news) = ((s : Sort) → is_among vars x.name s ≡ false) × AreNew (x ∷ vars) news

abbrev pub variable : Var → TermTree
variable x = tree.Variable x.name x.sort

-- a valuation with values for new variables, the first ones first
abbrev pub extended : Env → List Var → List Value → Env
extended env [] values = env
extended env (x ∷ news) [] = env
extended env (x ∷ news) (v ∷ values) = extended (binds (record { name = x.name; value = v } ∷ env.bindings)) news values
