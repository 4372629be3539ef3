-- When a rule is sound beside every rest: a move of a path, and the steps of a frame.
use Rattle.std.specs.Prelude.{◌≡◌, ℕ, ◌+◌, ◌≤◌, true, false, List, [], ◌∷◌, ◌++◌, Some, slice_get}
use Rattle.gv_base.specs.declared.answer.Answer.{Answer}
use Rattle.gv_base.specs.declared.answer.Answer.TheVariants.{Next, Blocked}
use Rattle.gv_base.specs.declared.val.Val.{Val}
use Rattle.gv_terms.specs.declared.value.Value.{Value}
use Rattle.gv_terms.specs.declared.value.Env.{Env}
use Rattle.gv_atomic.specs.Choices.{bound, binds}
use Rattle.gv_world.specs.Store.{Store as World}
use Rattle.gv_lang.specs.Tree.{Program}
use Rattle.gv_lang.specs.Threads.{Frame, Thread, thread_of}
use Rattle.gv_lang.specs.Step.{Stepped, GoesOn, stepped, returned, assigned}
use Rattle.gv_resources.specs.Pieces.{Resource, Piece}
use Rattle.gv_resources.specs.Ghost.{Ghost}
use Rattle.gv_assertions.specs.Atoms.{facts_of, atoms_of}
use Rattle.gv_assertions.specs.Standing.{StandForAll, AreTrueUnder, AreValuesOf, names_of}
use Rattle.gv_instances.specs.Instances.{Given, given_under}
use Rattle.gv_instances.specs.Agreeing.{AgreeOnVars}
use Rattle.gv_seats.specs.Paths.{Path, Procedure}
use Rattle.gv_seats.specs.Seats.{Proof, Described, Base, AreOwned, Seat, BegunSeat, Pair, plain}
use Rattle.gv_seats.specs.Changes.{Change, Nothing, Changed}

-- A frame stands at one of some paths of the same procedure, and the record beside the state has changed no more than this.
pub record Arrives (o : Proof) (w : World) (g : Ghost) (start : Env) (f : Frame) (h : Path) (ks : List Path) (rest : Piece) (c : Change) : Type 0 where
  pub after : Ghost
  pub changed : Changed c g after
  pub path : Path
  pub place : ℕ
  pub among : slice_get ks place ≡ Some path
  pub procedure : path.procedure ≡ h.procedure
  pub seat : Seat o w after start f path rest

-- ---- moves

-- A move from a path to some paths is sound: wherever a frame stands at the one, it stands at one of the others, beside the same rest. What the move
-- changes of the record beside the state may hang on the path's values. Where it leads to no path, no frame stands at the one.
abbrev pub IsSoundMove : Proof → (Env → Change) → Path → List Path → Type 0
IsSoundMove o c h ks = (w : World) (g : Ghost) (start : Env) (f : Frame) (rest : Piece) → (seat : Seat o w g start f h rest)
    → Arrives o w g start f h ks rest (c seat.env)

-- ---- steps that stay in a frame

abbrev pub at_rest : Frame → List Frame → Thread
at_rest f below = record { top = f; below = below; begun = false }

-- what such a step comes to: it waits, or the frame goes on at one of these paths, and nothing below it changes
pub data Goes (o : Proof) (g : Ghost) (start : Env) (below : List Frame) (h : Path) (ks : List Path) (rest : Piece) (c : Change) : Answer Stepped → Type 0 where
  waits : Goes o g start below h ks rest c Blocked
  goes : {w : World} {f : Frame} → Arrives o w g start f h ks rest c → Goes o g start below h ks rest c (Next (GoesOn w (at_rest f below) []))

-- A step is sound: wherever a frame stands at the path, its next step is not undefined, and it leads to one of the others beside the same rest.
abbrev pub IsSoundStep : Proof → (Env → Change) → Path → List Path → Type 0
IsSoundStep o c h ks = (program : Program) (extra : ℕ) (w : World) (g : Ghost) (start : Env) (f : Frame) (below : List Frame) (rest : Piece)
    → (seat : Seat o w g start f h rest) → Goes o g start below h ks rest (c seat.env) (stepped program extra (at_rest f below) w)

-- what the first step of a write comes to: the write has begun; or it is done with this one step
pub data BeginsAt (o : Proof) (g : Ghost) (start : Env) (below : List Frame) (h : Path) (ks : List Path) (rest : Piece) : Answer Stepped → Type 0 where
  begins : {w : World} {f : Frame} → BegunSeat o w g start f h rest
      → BeginsAt o g start below h ks rest (Next (GoesOn w (record { top = f; below = below; begun = true }) []))
  at_once : {answer : Answer Stepped} → Goes o g start below h ks rest Nothing answer → BeginsAt o g start below h ks rest answer

-- A write is sound: wherever a frame stands at the path, the first step of its next command is not undefined, and the frame stands there still, with its
-- write begun, or has gone on; and wherever it stands so, beside whatever rest there is then, the second step leads to one of the others.
pub record IsSoundWrite (o : Proof) (h : Path) (ks : List Path) : Type 0 where
  pub begin : (program : Program) (extra : ℕ) (w : World) (g : Ghost) (start : Env) (f : Frame) (below : List Frame) (rest : Piece) → Seat o w g start f h rest
      → BeginsAt o g start below h ks rest (stepped program extra (at_rest f below) w)
  pub end : (program : Program) (extra : ℕ) (w : World) (g : Ghost) (start : Env) (f : Frame) (below : List Frame) (rest : Piece) → BegunSeat o w g start f h rest
      → Goes o g start below h ks rest Nothing (stepped program extra (record { top = f; below = below; begun = true }) w)

-- ---- calls

-- the frame of a call stands at the callee's path; its caller waits at a path, and will go on from it; under the valuation by which it waits the given terms
-- have the values of the callee's variables
pub data Calls (o : Proof) (g : Ghost) (start : Env) (below : List Frame) (waiting callee : Path) (given : List Given) (rest : Piece) : Answer Stepped → Type 0 where
  calls : {w : World} {caller new : Frame} {values : Env} → (pair : Pair o w g start caller waiting values new callee rest)
      → AgreeOnVars values (given_under given pair.env) callee.procedure.start
      → Calls o g start below waiting callee given rest (Next (GoesOn w (at_rest new (caller ∷ below)) []))

abbrev pub IsSoundCall : Proof → Program → Path → (waiting callee : Path) → List Given → Type 0
IsSoundCall o program h waiting callee given =
    (extra : ℕ) (w : World) (g : Ghost) (start : Env) (f : Frame) (below : List Frame) (rest : Piece) → Seat o w g start f h rest
    → Calls o g start below waiting callee given rest (stepped program extra (at_rest f below) w)

-- the same of a new thread, beside which the frame goes on
pub data Spawns (o : Proof) (g : Ghost) (start : Env) (below : List Frame) (k callee : Path) (given : List Given) (env : Env) (rest : Piece)
    : Answer Stepped → Type 0 where
  spawns : {w : World} {f new : Frame} {values : Env} → AgreeOnVars values (given_under given env) callee.procedure.start
      → Pair o w g start f k values new callee rest
      → Spawns o g start below k callee given env rest (Next (GoesOn w (at_rest f below) (thread_of new ∷ [])))

abbrev pub IsSoundSpawn : Proof → Program → Path → (k callee : Path) → List Given → Type 0
IsSoundSpawn o program h k callee given =
    (extra : ℕ) (w : World) (g : Ghost) (start : Env) (f : Frame) (below : List Frame) (rest : Piece) → (seat : Seat o w g start f h rest)
    → Spawns o g start below k callee given seat.env rest (stepped program extra (at_rest f below) w)

-- ---- returns

-- what locals hold, as values of terms
pub data ArePlain : List Val → List Value → Type 0 where
  no_value : ArePlain [] []
  a_value : {v : Val} {x : Value} {vs : List Val} {xs : List Value} → plain v ≡ Some x → ArePlain vs xs → ArePlain (v ∷ vs) (x ∷ xs)

-- the results under their names, and the variables of the start
abbrev pub with_results : Procedure → List Value → Env → Env
with_results p results start = binds (bound (names_of p.results) results ++ start.bindings)

-- the results are values of their variables' sorts, and a piece stands for what a procedure owes of them
pub record Owed (o : Proof) (p : Procedure) (start : Env) (results : List Value) (part : Piece) : Type 0 where
  pub values : AreValuesOf p.results results
  pub facts : AreTrueUnder (with_results p results start) (facts_of p.owed)
  pub stands : StandForAll o.preds (with_results p results start) (atoms_of p.owed) part

-- what a return comes to: the frame below, where there is one, gets the results; a part stands for what is owed, and beside it all fits
pub data Returns (o : Proof) (g : Ghost) (start : Env) (f : Frame) (below : List Frame) (h : Path) (rest : Piece) : Answer Stepped → Type 0 where
  returns : {w : World} {vs : List Val} {part pool : Piece} {locks : ℕ → Piece} (results : List Value) → ArePlain vs results → Owed o h.procedure start results part
      → Base o w g h.mode h.bracket part pool locks rest → AreOwned w rest
      → Returns o g start f below h rest (Next (returned below w f.results vs))

abbrev pub IsSoundReturn : Proof → Path → Type 0
IsSoundReturn o h = (program : Program) (extra : ℕ) (w : World) (g : Ghost) (start : Env) (f : Frame) (below : List Frame) (rest : Piece) → Seat o w g start f h rest
    → Returns o g start f below h rest (stepped program extra (at_rest f below) w)

-- A caller that waits goes on: with what the callee owed, under the values that the given terms had at its start, its frame stands at the path behind the call.
abbrev pub IsSoundAnswer : Proof → (waiting : Path) → List Given → Procedure → (targets : List ℕ) → Path → Type 0
IsSoundAnswer o waiting given p targets k =
    (start env values : Env) (caller : Frame) (piece part whole : Piece) (vs : List Val) (results : List Value)
    → Described o.preds start env waiting caller piece → AgreeOnVars values (given_under given env) p.start → ArePlain vs results → Owed o p values results part
    → ((e : Resource) → piece e + part e ≤ whole e)
    → (later : Env) × Described o.preds start later k (record caller { locals = assigned caller.locals targets vs }) whole
