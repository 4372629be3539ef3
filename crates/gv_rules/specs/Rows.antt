-- Rows of rules: what a path must be like, and which path comes of it.
use Rattle.std.specs.Prelude.{◌≡◌, ◌≢◌, ℕ, Bool, false, List, [], ◌∷◌, ◌++◌, Some, slice_set, length, ◌<◌}
use Rattle.gv_base.specs.declared.answers.Place.{Place}
use Rattle.gv_terms.specs.declared.sort.Sort.{Sort}
use Rattle.gv_terms.specs.declared.sort.Sort.TheVariants as sort
use Rattle.gv_terms.specs.declared.tree.TermTree.{TermTree}
use Rattle.gv_terms.specs.Trees.{sort_of}
use Rattle.gv_lang.specs.Tree.{Expr, Let, Load, Store, Do, Lock, Unlock}
use Rattle.gv_lang.specs.Todo.{Todo, Run}
use Rattle.gv_resources.specs.Kinds as kind
use Rattle.gv_resources.specs.Kinds.{cell_kind}
use Rattle.gv_resources.specs.Ghost.{Sharing, Shared}
use Rattle.gv_assertions.specs.Atoms.{Atom, Owns, Instance, Takes}
use Rattle.gv_assertions.specs.Kept.{IsPersistent}
use Rattle.gv_seats.specs.Paths.{Path, Closed, Opened, Used, term_of, number, goes_on}
use Rattle.gv_seats.specs.Seats.{Proof}

-- ---- when a step may be made

-- no sharing is under way, boot has not run, and the bracket is closed, or opened for this step
pub record MayStep (h : Path) : Type 0 where
  pub mode : h.mode ≢ Sharing
  pub booted : h.booted ≡ false
  pub bracket : h.bracket ≢ Used

-- a command with two steps, a call or a return: the bracket is closed
pub record MayWrite (h : Path) : Type 0 where
  pub mode : h.mode ≢ Sharing
  pub booted : h.booted ≡ false
  pub bracket : h.bracket ≡ Closed

-- locks are for shared mode
pub record MayLock (h : Path) : Type 0 where
  pub mode : h.mode ≡ Shared
  pub booted : h.booted ≡ false
  pub bracket : h.bracket ≢ Used

-- ---- moves

-- copy: what is persistent is there once more
pub data Copies (o : Proof) (h : Path) : Path → Type 0 where
  copies : (a : Atom) (left : List Atom) → Takes h.atoms a left → IsPersistent o.preds a → Copies o h (record h { atoms = h.atoms ++ a ∷ [] })

-- what a local may hold
abbrev pub IsLocalSort : Sort → Type 0
IsLocalSort sort.Word = Unit {0}
IsLocalSort sort.Bool = Unit {0}
IsLocalSort sort.Ref = Unit {0}
IsLocalSort sort.SliceS = Unit {0}
IsLocalSort _ = ⊥

-- open: in shared mode the crash invariant is taken, for one step
pub data Opens (o : Proof) (h : Path) : Path → Type 0 where
  opens : h.booted ≡ false → h.mode ≡ Shared → h.bracket ≡ Closed → Opens o h (record h { atoms = h.atoms ++ Instance o.crash [] ∷ []; bracket = Opened })

-- close: it is given back; after boot more is owed
pub data Closes (o : Proof) (h : Path) : Path → Type 0 where
  closes : (left : List Atom) → h.booted ≡ false → h.bracket ≢ Closed → Takes h.atoms (Instance o.crash []) left → Closes o h (record h { atoms = left; bracket = Closed })

-- ---- steps

-- the local is there
abbrev pub IsLocal : Path → ℕ → Type 0
IsLocal h x = x < length h.locals

-- x = e: the local gets the expression's term
pub data Lets (h : Path) : Path → Type 0 where
  lets : (x : ℕ) (e : Expr) (t : TermTree) (s : Sort) (place : Place) (rest : Todo) → MayStep h → h.todo ≡ Run (Do (Let x e) place) ∷ rest → IsLocal h x
      → term_of h.locals e ≡ Some t → sort_of t ≡ Some s
      → Lets h (goes_on h rest (slice_set h.locals x (Some t)) h.atoms)

-- x = p.f: the local gets the value of the cell, which is owned or read-only
pub data Loads (h : Path) : Path → Type 0 where
  loads : (x : ℕ) (p : Expr) (object v : TermTree) (of field : ℕ) (frozen : Bool) (left : List Atom) (place : Place) (rest : Todo)
      → MayStep h → h.todo ≡ Run (Do (Load x p of field) place) ∷ rest → IsLocal h x → term_of h.locals p ≡ Some object → sort_of object ≡ Some sort.Ref
      → (s : Sort) → sort_of v ≡ Some s → IsLocalSort s
      → Takes h.atoms (Owns (cell_kind frozen) (object ∷ number of ∷ number field ∷ []) (v ∷ [])) left
      → Loads h (goes_on h rest (slice_set h.locals x (Some v)) h.atoms)

-- an item of a list becomes another
pub data Replaces {A : Type 0} : List A → A → A → List A → Type 0 where
  here : {x y : A} {xs : List A} → Replaces (x ∷ xs) x y (y ∷ xs)
  there : {x y z : A} {xs ys : List A} → Replaces xs x y ys → Replaces (z ∷ xs) x y (z ∷ ys)

-- p.f = e: the cell, which must be owned, gets the expression's term
pub data Stores (h : Path) : Path → Type 0 where
  stores : (p e : Expr) (object v t : TermTree) (of field : ℕ) (atoms : List Atom) (place : Place) (rest : Todo)
      → MayWrite h → h.todo ≡ Run (Do (Store p of field e) place) ∷ rest → term_of h.locals p ≡ Some object → sort_of object ≡ Some sort.Ref
      → term_of h.locals e ≡ Some t → (s : Sort) → sort_of t ≡ Some s → sort_of v ≡ Some s → IsLocalSort s
      → Replaces h.atoms (Owns kind.Cell (object ∷ number of ∷ number field ∷ []) (v ∷ [])) (Owns kind.Cell (object ∷ number of ∷ number field ∷ []) (t ∷ [])) atoms
      → Stores h (goes_on h rest h.locals atoms)

-- Lock m: what the mutex guards is there, and that it is held; the step waits where it is locked
pub data Locks (h : Path) : Path → Type 0 where
  locks_mutex : (m : Expr) (object : TermTree) (pred : ℕ) (args : List TermTree) (left : List Atom) (place : Place) (rest : Todo)
      → MayLock h → h.todo ≡ Run (Do (Lock m) place) ∷ rest → term_of h.locals m ≡ Some object → sort_of object ≡ Some sort.Ref
      → Takes h.atoms (Owns kind.Lock (object ∷ []) (number pred ∷ args)) left
      → Locks h (goes_on h rest h.locals (h.atoms ++ Instance pred args ∷ Owns kind.Held (object ∷ []) [] ∷ []))

-- Unlock m: what the mutex guards, and that it is held, are given up
pub data Unlocks (h : Path) : Path → Type 0 where
  unlocks_mutex : (m : Expr) (object : TermTree) (pred : ℕ) (args : List TermTree) (known without left : List Atom) (place : Place) (rest : Todo)
      → MayLock h → h.todo ≡ Run (Do (Unlock m) place) ∷ rest → term_of h.locals m ≡ Some object → sort_of object ≡ Some sort.Ref
      → Takes h.atoms (Owns kind.Lock (object ∷ []) (number pred ∷ args)) known
      → Takes h.atoms (Owns kind.Held (object ∷ []) []) without
      → Takes without (Instance pred args) left
      → Unlocks h (goes_on h rest h.locals left)
