-- Rows of rules about calls: what a path must be like, and which paths come of it.
use Rattle.std.specs.Prelude.{◌≡◌, ℕ, zero, suc, true, false, List, [], ◌∷◌, ◌++◌, Option, Some, None, drop, length, map, slice_get}
use Rattle.std.specs.Str.{bytes_eq}
use Rattle.gv_base.specs.declared.answers.Place.{Place}
use Rattle.gv_terms.specs.declared.tree.TermTree.{TermTree}
use Rattle.gv_terms.specs.declared.value.Env.{Env}
use Rattle.gv_terms.specs.declared.var.Var.{Var}
use Rattle.gv_terms.specs.Ranges.{IsValuation, numbers_are_words}
use Rattle.gv_lang.specs.Tree as lang
use Rattle.gv_lang.specs.Tree.{Expr, Do, Return, Proc, Program}
use Rattle.gv_lang.specs.Todo.{Todo, Run, put}
use Rattle.gv_resources.specs.Ghost.{Shared}
use Rattle.gv_assertions.specs.Standing.{AreTrueUnder}
use Rattle.gv_assertions.specs.Atoms.{Atom, Takes, facts_of, atoms_of}
use Rattle.gv_instances.specs.Instances.{Given, AreSorted, put_in_all, put_in_atoms, AreAllApart}
use Rattle.gv_instances.specs.Agreeing.{AreClosed, AreClosedAtoms}
use Rattle.gv_seats.specs.Paths.{Path, Procedure, Closed, term_of, goes_on}
use Rattle.gv_seats.specs.Scoping.{variable}
use Rattle.gv_rules.specs.Rows.{MayWrite}

-- ---- what is given and taken

-- true wherever a path's facts are
abbrev pub AreKnown : Path → List TermTree → Type 0
AreKnown h ts = (env : Env) → IsValuation env → AreTrueUnder env h.facts → AreTrueUnder env ts

-- a list with several items taken out, one after another
pub data TakesAll {A : Type 0} : List A → List A → List A → Type 0 where
  takes_none : {all : List A} → TakesAll all [] all
  takes_one : {all mid left xs : List A} {x : A} → Takes all x mid → TakesAll mid xs left → TakesAll all (x ∷ xs) left

abbrev pub vars_of : List Given → List Var
vars_of given = map (λ g. g.var) given

-- each term has its variable's sort, and words as its numbers
abbrev pub AreTerms : List Given → Type 0
AreTerms [] = Unit {0}
AreTerms (g ∷ given) = (numbers_are_words g.term ≡ true) × AreTerms given

-- no two variables bear one name
abbrev pub DifferFrom : Var → List Var → Type 0
DifferFrom x [] = Unit {0}
DifferFrom x (y ∷ ys) = (bytes_eq x.name y.name ≡ false) × DifferFrom x ys

abbrev pub AreDistinct : List Var → Type 0
AreDistinct [] = Unit {0}
AreDistinct (x ∷ xs) = DifferFrom x xs × AreDistinct xs

-- the terms of expressions are the first of those given
pub data AreArgs (locals : List (Option TermTree)) : List Expr → List Given → Type 0 where
  no_args : {given : List Given} → AreArgs locals [] given
  an_arg : {e : Expr} {es : List Expr} {g : Given} {given : List Given} → term_of locals e ≡ Some g.term → AreArgs locals es given → AreArgs locals (e ∷ es) (g ∷ given)

-- ---- where a procedure's block begins

-- the terms of the parameters are the first variables
abbrev pub param_terms : ℕ → List Var → List (Option TermTree)
param_terms zero xs = []
param_terms (suc n) [] = []
param_terms (suc n) (x ∷ xs) = Some (variable x) ∷ param_terms n xs

-- other locals have no term
abbrev pub start_path : Procedure → Proc → Path
start_path p proc = record {
  todo = put proc.body [];
  locals = param_terms proc.params p.start ++ map (λ x. None) (drop proc.params proc.locals);
  vars = p.start;
  facts = facts_of p.given;
  atoms = atoms_of p.given;
  mode = p.mode;
  bracket = Closed;
  booted = false;
  stepped = false;
  standing = 0;
  procedure = p;
}

-- what a procedure is given is there, with terms put in for the variables of its start; the first of them are the arguments
pub record Gives (h : Path) (p : Procedure) (proc : Proc) (es : List Expr) (given : List Given) (left : List Atom) : Type 0 where
  pub vars : p.start ≡ vars_of given
  pub distinct : AreDistinct p.start
  pub as_many : length es ≡ proc.params
  pub args : AreArgs h.locals es given
  pub sorted : AreSorted given
  pub terms : AreTerms given
  pub closed_facts : AreClosed p.start (facts_of p.given)
  pub closed_atoms : AreClosedAtoms p.start (atoms_of p.given)
  pub apart : AreAllApart given (atoms_of p.given)
  pub known : AreKnown h (put_in_all given (facts_of p.given))
  pub taken : TakesAll h.atoms (put_in_atoms given (atoms_of p.given)) left

-- xs = f(e, ..): the caller waits with what it keeps
pub data CallsOne (program : Program) (h : Path) : (waiting callee : Path) → List Given → Type 0 where
  calls_one : (xs : List ℕ) (f : ℕ) (es : List Expr) (p : Procedure) (proc : Proc) (given : List Given) (left : List Atom) (place : Place) (rest : Todo) → MayWrite h
      → h.todo ≡ Run (Do (lang.Call xs f es) place) ∷ rest → slice_get program.procs f ≡ Some proc → Gives h p proc es given left → p.mode ≡ h.mode
      → CallsOne program h (record h { todo = rest; atoms = left; stepped = true }) (start_path p proc) given

-- go f(e, ..): the frame goes on with what it keeps
pub data SpawnsOne (program : Program) (h : Path) : (k callee : Path) → List Given → Type 0 where
  spawns_one : (f : ℕ) (es : List Expr) (p : Procedure) (proc : Proc) (given : List Given) (left : List Atom) (place : Place) (rest : Todo) → MayWrite h → h.mode ≡ Shared
      → h.todo ≡ Run (Do (lang.Spawn f es) place) ∷ rest → slice_get program.procs f ≡ Some proc → Gives h p proc es given left → p.mode ≡ Shared
      → SpawnsOne program h (goes_on h rest h.locals left) (start_path p proc) given

-- return e, ..: what the procedure owes is there, with the terms of the results put in
pub data ReturnsFrom (h : Path) : Type 0 where
  returns_from : (es : List Expr) (given : List Given) (left : List Atom) (place : Place) (rest : Todo) → MayWrite h → h.todo ≡ Run (Return es place) ∷ rest
      → h.procedure.results ≡ vars_of given → length es ≡ length given → AreArgs h.locals es given → AreSorted given → AreTerms given
      → AreClosed (h.procedure.results ++ h.procedure.start) (facts_of h.procedure.owed) → AreClosedAtoms (h.procedure.results ++ h.procedure.start) (atoms_of h.procedure.owed)
      → AreAllApart given (atoms_of h.procedure.owed) → AreKnown h (put_in_all given (facts_of h.procedure.owed))
      → TakesAll h.atoms (put_in_atoms given (atoms_of h.procedure.owed)) left → ReturnsFrom h
