-- The points of a procedure: its commands in the order of the text, numbered from 1, each with its successors.
use Rattle.std.specs.Prelude.{ℕ, suc, ◌+◌, List, [], ◌∷◌, ◌++◌, map}
use Rattle.gv_base.specs.declared.answers.Place.{Place}
use Rattle.gv_lang.specs.Tree.{Action, Let, Div, Rem, New, Load, Store, MakeSlice, At, Put, Len, NewMap, MapGet, MapPut, MapDelete, NewMutex, Lock, Unlock, DiskRead, DiskRead2, DiskWrite, DiskSize, Get64, Put64, Sub, Append, Call, Spawn, Cmd, Do, If, Loop, Break, Continue, Return, Block, finish, next, Proc, Program}

pub record Point : Type 0 where
  -- the command; an If and a Loop without their blocks
  pub action : Cmd
  pub place : Place
  -- the locals that it sets
  pub targets : List ℕ
  -- the points that may come next; of an If that of its condition first
  pub next : List ℕ

-- how many commands there are
abbrev mutual
  pub size : Block → ℕ
  size finish = 0
  size (next c b) = command_size c + size b

  pub command_size : Cmd → ℕ
  command_size (If e t f place) = suc (size t + size f)
  command_size (Loop body place) = suc (size body)
  command_size (Do a place) = 1
  command_size (Break place) = 1
  command_size (Continue place) = 1
  command_size (Return es place) = 1

-- the first point of a block whose commands are numbered from `at`; of an empty one what follows it
abbrev pub entry : Block → (at after : ℕ) → ℕ
entry finish at after = after
entry (next c b) at after = at

abbrev pub sets : Action → List ℕ
sets (Let x e) = x ∷ []
sets (Div x a b) = x ∷ []
sets (Rem x a b) = x ∷ []
sets (New x of vs) = x ∷ []
sets (Load x p of field) = x ∷ []
sets (Store p of field e) = []
sets (MakeSlice x item n) = x ∷ []
sets (At x s i) = x ∷ []
sets (Put s i v) = []
sets (Len x s) = x ∷ []
sets (NewMap x) = x ∷ []
sets (MapGet x ok m k) = x ∷ ok ∷ []
sets (MapPut m k v) = []
sets (MapDelete m k) = []
sets (NewMutex x) = x ∷ []
sets (Lock m) = []
sets (Unlock m) = []
sets (DiskRead x a) = x ∷ []
sets (DiskRead2 x ok d a) = x ∷ ok ∷ []
sets (DiskWrite d a s) = []
sets (DiskSize x) = x ∷ []
sets (Get64 x s) = x ∷ []
sets (Put64 s v) = []
sets (Sub x s a b) = x ∷ []
sets (Append x item s v) = x ∷ []
sets (Call xs f es) = xs
sets (Spawn f es) = []

-- a point that sets no local
abbrev pub plain_point : Cmd → Place → List ℕ → Point
plain_point c place successors = record { action = c; place = place; targets = []; next = successors }

-- where control goes from a block: after its end, at a Break, at a Continue; 0 is nowhere
abbrev mutual
  pub block_points : Block → (at after leave again : ℕ) → List Point
  block_points finish at after leave again = []
  block_points (next c b) at after leave again =
      command_points c at (entry b (at + command_size c) after) leave again ++ block_points b (at + command_size c) after leave again

  pub command_points : Cmd → (at after leave again : ℕ) → List Point
  command_points (Do a place) at after leave again =
      record { action = Do a place; place = place; targets = sets a; next = after ∷ [] } ∷ []
  command_points (If e t f place) at after leave again =
      plain_point (If e finish finish place) place (entry t (at + 1) after ∷ entry f (at + 1 + size t) after ∷ [])
      ∷ block_points t (at + 1) after leave again ++ block_points f (at + 1 + size t) after leave again
  command_points (Loop body place) at after leave again =
      plain_point (Loop finish place) place (entry body (at + 1) 0 ∷ [])
      ∷ block_points body (at + 1) 0 after (entry body (at + 1) 0)
  command_points (Break place) at after leave again = plain_point (Break place) place (leave ∷ []) ∷ []
  command_points (Continue place) at after leave again = plain_point (Continue place) place (again ∷ []) ∷ []
  command_points (Return es place) at after leave again = plain_point (Return es place) place [] ∷ []

-- a procedure's graph: its first point, and all of them
pub record ProcGraph : Type 0 where
  pub entry : ℕ
  pub points : List Point

abbrev pub points : Block → List Point
points body = block_points body 1 0 0 0

abbrev pub graph_of : Proc → ProcGraph
graph_of p = record { entry = entry p.body 1 0; points = points p.body }

abbrev pub graphs_of : Program → List ProcGraph
graphs_of g = map graph_of g.procs
