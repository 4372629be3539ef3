-- Programs as trees of commands.
use Rattle.std.specs.Prelude.{ℕ, Bool, List}
use Rattle.gv_base.specs.declared.answers.Place.{Place}
use Rattle.gv_lang.specs.declared.pure.Unary.{Unary}
use Rattle.gv_lang.specs.declared.pure.Binary.{Binary}
use Rattle.gv_lang.specs.declared.program.ItemKind.{ItemKind}
use Rattle.gv_lang.specs.declared.program.LocalKind.{LocalKind}
use Rattle.gv_lang.specs.declared.program.Local.{Local}
use Rattle.gv_lang.specs.declared.program.Struct.{Struct}

-- expressions over locals, each named by its place
pub data Expr : Type 0 where
  Number : ℕ → Expr
  Truth : Bool → Expr
  Nil : Expr
  NilSlice : Expr
  LocalAt : ℕ → Expr
  One : Unary → Expr → Expr
  Two : Binary → Expr → Expr → Expr

-- what a command does where control goes on to the command after it; x, ok and xs are the locals that it
-- sets, `of` and `field` name a struct and its field, f a procedure
pub data Action : Type 0 where
  -- x = e
  Let : (x : ℕ) → (e : Expr) → Action
  -- x = a / b
  Div : (x : ℕ) → (a b : Expr) → Action
  -- x = a % b
  Rem : (x : ℕ) → (a b : Expr) → Action
  -- x = &T{v, ..}
  New : (x of : ℕ) → (vs : List Expr) → Action
  -- x = p.f
  Load : (x : ℕ) → (p : Expr) → (of field : ℕ) → Action
  -- p.f = e, in two steps
  Store : (p : Expr) → (of field : ℕ) → (e : Expr) → Action
  -- x = make([]T, n)
  MakeSlice : (x : ℕ) → (item : ItemKind) → (n : Expr) → Action
  -- x = s[i]
  At : (x : ℕ) → (s i : Expr) → Action
  -- s[i] = v, in two steps
  Put : (s i v : Expr) → Action
  -- x = len(s)
  Len : (x : ℕ) → (s : Expr) → Action
  NewMap : (x : ℕ) → Action
  -- x, ok = m[k]
  MapGet : (x ok : ℕ) → (m k : Expr) → Action
  -- m[k] = v, in two steps
  MapPut : (m k v : Expr) → Action
  -- delete(m, k), in two steps
  MapDelete : (m k : Expr) → Action
  NewMutex : (x : ℕ) → Action
  Lock : (m : Expr) → Action
  Unlock : (m : Expr) → Action
  -- x = block a of the one disk
  DiskRead : (x : ℕ) → (a : Expr) → Action
  -- x, ok = block a of disk d
  DiskRead2 : (x ok : ℕ) → (d a : Expr) → Action
  -- block a of disk d = s
  DiskWrite : (d a s : Expr) → Action
  DiskSize : (x : ℕ) → Action
  -- x = the word in the first 8 bytes of s
  Get64 : (x : ℕ) → (s : Expr) → Action
  -- the first 8 bytes of s = v, in two steps
  Put64 : (s v : Expr) → Action
  -- x = s[a:b]
  Sub : (x : ℕ) → (s a b : Expr) → Action
  -- x = append(s, v), in two steps where there is a spare cell
  Append : (x : ℕ) → (item : ItemKind) → (s v : Expr) → Action
  -- xs = f(e, ..)
  Call : (xs : List ℕ) → (f : ℕ) → (es : List Expr) → Action
  -- go f(e, ..)
  Spawn : (f : ℕ) → (es : List Expr) → Action

-- each command with the place of its statement in the text
mutual
  pub data Cmd : Type 0 where
    Do : Action → Place → Cmd
    If : Expr → Block → Block → Place → Cmd
    Loop : Block → Place → Cmd
    Break : Place → Cmd
    Continue : Place → Cmd
    Return : List Expr → Place → Cmd

  pub data Block : Type 0 where
    finish : Block
    next : Cmd → Block → Block

-- the first `params` locals are the parameters
pub record Proc : Type 0 where
  pub name : List ℕ
  pub params : ℕ
  pub locals : List Local
  pub results : List LocalKind
  pub body : Block

-- recovery and the operations are procedures, named by their places
pub record Program : Type 0 where
  pub structs : List Struct
  pub procs : List Proc
  pub recover : ℕ
  pub ops : List ℕ
