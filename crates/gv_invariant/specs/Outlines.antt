-- What was checked of a program: its paths lead on by sound rules, until they return.
use Rattle.std.specs.Prelude.{◌≡◌, ◌≢◌, ℕ, Bool, true, false, List, [], ◌∷◌, Some, codes, slice_get}
use Rattle.gv_base.specs.declared.answers.Place.{Place}
use Rattle.gv_terms.specs.declared.sort.Sort.TheVariants as sort
use Rattle.gv_terms.specs.declared.tree.TermTree.{TermTree}
use Rattle.gv_terms.specs.declared.value.Env.{Env}
use Rattle.gv_terms.specs.declared.var.Var.{Var}
use Rattle.gv_terms.specs.Trees.{sort_of}
use Rattle.gv_lang.specs.Tree.{Expr, Do, Return, Call, Program}
use Rattle.gv_lang.specs.Todo.{Todo, Run}
use Rattle.gv_resources.specs.Ghost.{Mode, Owned, Sharing, Shared}
use Rattle.gv_assertions.specs.Atoms.{Atom, Instance}
use Rattle.gv_instances.specs.Instances.{Given, AreSorted, AreApart, put_in_atom}
use Rattle.gv_instances.specs.Agreeing.{IsClosedAtom}
use Rattle.gv_seats.specs.Paths.{Path, Procedure, Bracket, Closed, Opened, Used, Serves, Recovers, term_of, after_step}
use Rattle.gv_seats.specs.Seats.{Proof}
use Rattle.gv_seats.specs.Changes.{Change, changes_nothing}
use Rattle.gv_seats.specs.Soundness.{IsSoundMove, IsSoundStep, IsSoundWrite, IsSoundCall, IsSoundSpawn, IsSoundReturn, IsSoundAnswer}
use Rattle.gv_giving.specs.Rows.{TakesAll}
use Rattle.gv_acting.specs.Rows.{BeginsSharing, EndsSharing}
use Rattle.gv_acting.specs.Boots.{IsSoundBoot}
use Rattle.gv_runs.specs.Machine.{Setting}

pub record Outline : Type 0 where
  pub proof : Proof
  pub program : Program
  pub setting : Setting
  -- the paths at which blocks begin: recovery's, each operation's by its number, and those of other procedures and of cuts
  pub recovers : Path
  pub operates : List Path
  pub blocks : List Path

-- ---- what is left for a crash, and at the boot

-- wherever a frame stands at the path, a move that changes nothing leads to paths that have these assertions
pub record Leaves (o : Outline) (h : Path) (wanted : List Atom) : Type 0 where
  pub paths : List Path
  pub move : IsSoundMove o.proof changes_nothing h paths
  pub there : (n : ℕ) (k : Path) → slice_get paths n ≡ Some k → (left : List Atom) × TakesAll k.atoms wanted left

-- the crash condition of its procedure, which speaks of the variables that its block starts with
pub record LeavesCondition (o : Outline) (h : Path) : Type 0 where
  pub condition : Atom
  pub is : h.procedure.crash ≡ Some condition
  pub closed : IsClosedAtom h.procedure.start condition
  pub leaves : Leaves o h (condition ∷ [])

-- while a procedure runs that was called: what its caller keeps, with the condition of the procedure, leaves the caller's condition
pub record LeavesMeanwhile (o : Outline) (waiting : Path) (given : List Given) (p : Procedure) : Type 0 where
  pub condition : Atom
  pub is : p.crash ≡ Some condition
  pub closed : IsClosedAtom p.start condition
  pub sorted : AreSorted given
  pub apart : AreApart given condition
  pub leaves : LeavesCondition o (record waiting { atoms = put_in_atom given condition ∷ waiting.atoms })

-- after the boot: the crash invariant, and what recovery hands to calls, the root's instance of what it returns
pub record HandsOver (o : Outline) (h : Path) (e : Expr) : Type 0 where
  pub paths : List Path
  pub move : IsSoundMove o.proof changes_nothing h paths
  pub there : (n : ℕ) (k : Path) → slice_get paths n ≡ Some k → (t : TermTree) × (left : List Atom) × (term_of k.locals e ≡ Some t) × (sort_of t ≡ Some sort.Ref)
      × TakesAll k.atoms (Instance o.proof.crash [] ∷ Instance o.proof.root (t ∷ []) ∷ []) left

-- ---- steps

-- a path at which a step may be made: the bracket is closed, or opened for it; no sharing is under way; in own mode a crash finds its condition
pub record MayLeave (o : Outline) (h : Path) : Type 0 where
  pub bracket : h.bracket ≢ Used
  pub mode : h.mode ≢ Sharing
  pub safe : h.mode ≡ Owned → LeavesCondition o h

-- a command that is done in two steps, a call or a return
pub record MayLeaveClosed (o : Outline) (h : Path) : Type 0 where
  pub bracket : h.bracket ≡ Closed
  pub mode : h.mode ≢ Sharing
  pub safe : h.mode ≡ Owned → LeavesCondition o h

-- another path of the same procedure, in the same mode, with a closed bracket
pub record IsBeside (h k : Path) : Type 0 where
  pub mode : k.mode ≡ h.mode
  pub bracket : k.bracket ≡ Closed
  pub procedure : k.procedure ≡ h.procedure

-- a call: where the caller waits, where the callee's block begins, and where the caller goes on
pub record IsCall (o : Outline) (h waiting callee behind : Path) (given : List Given) (xs : List ℕ) : Type 0 where
  pub f : ℕ
  pub es : List Expr
  pub place : Place
  pub rest : Todo
  pub todo : h.todo ≡ Run (Do (Call xs f es) place) ∷ rest
  pub enters : IsSoundCall o.proof o.program h waiting callee given
  pub answers : IsSoundAnswer o.proof waiting given callee.procedure xs behind
  pub role : callee.procedure.role ≡ Serves
  pub waits : IsBeside h waiting
  pub follows : IsBeside h behind
  pub mode : callee.mode ≡ h.mode
  pub bracket : callee.bracket ≡ Closed
  pub meanwhile : h.mode ≡ Owned → LeavesMeanwhile o waiting given callee.procedure

-- an opened bracket that was used is not opened again
abbrev pub StaysUsed : Bracket → Bracket → Type 0
StaysUsed Used Opened = ⊥
StaysUsed b c = Unit {0}

-- A path leads on: by moves, and then by a step, to paths that do. The flag tells whether a step was made since the block began: only then it may come to a cut.
mutual
  pub data Leads (o : Outline) : Bool → Path → Type 0 where
    by_move : {b : Bool} {h : Path} (c : Env → Change) (ks : List Path) → IsSoundMove o.proof c h ks → AllLead o b h ks → Leads o b h
    by_cut : {h : Path} (n : ℕ) (k : Path) → slice_get o.blocks n ≡ Some k → IsSoundMove o.proof changes_nothing h (k ∷ []) → h.bracket ≡ Closed → IsBeside h k → Leads o true h
    by_step : {b : Bool} {h : Path} (c : Env → Change) (ks : List Path) → MayLeave o h → IsSoundStep o.proof c h ks → AllFollow o h ks → Leads o b h
    by_write : {b : Bool} {h : Path} (ks : List Path) → MayLeaveClosed o h → IsSoundWrite o.proof h ks → AllFollow o h ks → Leads o b h
    by_call : {b : Bool} {h : Path} (waiting callee behind : Path) (given : List Given) (xs : List ℕ) (n : ℕ) → MayLeaveClosed o h → IsCall o h waiting callee behind given xs
        → slice_get o.blocks n ≡ Some callee → Leads o true behind → Leads o b h
    by_spawn : {b : Bool} {h : Path} (k callee : Path) (given : List Given) (n : ℕ) → MayLeaveClosed o h → h.mode ≡ Shared → IsSoundSpawn o.proof o.program h k callee given
        → IsBeside h k → callee.procedure.role ≡ Serves → callee.mode ≡ Shared → callee.bracket ≡ Closed → slice_get o.blocks n ≡ Some callee → Leads o true k → Leads o b h
    by_return : {b : Bool} {h : Path} → MayLeaveClosed o h → h.procedure.role ≢ Recovers → IsSoundReturn o.proof h → Leads o b h
    -- recovery shares what it owns, in two moves
    by_sharing : {b : Bool} {h : Path} (k : Path) → BeginsSharing o.proof h k → Leads o b k → Leads o b h
    by_shared : {b : Bool} {h : Path} (k : Path) → h.procedure.role ≡ Recovers → EndsSharing o.proof h k → Leads o b k → Leads o b h
    -- and returns
    by_boot : {b : Bool} {h : Path} (e : Expr) (place : Place) (rest : Todo) (choices : List TermTree) (k : Path) → h.todo ≡ Run (Return (e ∷ []) place) ∷ rest → h.mode ≡ Shared
        → h.bracket ≡ Opened → h.procedure.role ≡ Recovers → IsSoundBoot o.proof choices h k → HandsOver o k e → Leads o b h

  pub data AllLead (o : Outline) : Bool → Path → List Path → Type 0 where
    no_path : {b : Bool} {h : Path} → AllLead o b h []
    a_path : {b : Bool} {h k : Path} {ks : List Path} → k.mode ≡ h.mode → StaysUsed h.bracket k.bracket → Leads o b k → AllLead o b h ks → AllLead o b h (k ∷ ks)

  -- behind a step
  pub data AllFollow (o : Outline) : Path → List Path → Type 0 where
    none_follows : {h : Path} → AllFollow o h []
    one_follows : {h k : Path} {ks : List Path} → k.mode ≡ h.mode → k.bracket ≡ after_step h.bracket → Leads o true k → AllFollow o h ks → AllFollow o h (k ∷ ks)

-- ---- where blocks begin

-- the variable of the call that an operation's block is there for
abbrev pub me : Var
me = record { name = codes "me"; sort = sort.Call }
