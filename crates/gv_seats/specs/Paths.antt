-- What a path of a proof knows when a frame stands at a command.
use Rattle.std.specs.Prelude.{ℕ, Bool, true, false, List, [], ◌∷◌, Option, Some, None, slice_get}
use Rattle.gv_terms.specs.declared.operator.Operator.{Operator}
use Rattle.gv_terms.specs.declared.operator.Operator.TheVariants as op
use Rattle.gv_terms.specs.declared.tree.TermTree.{TermTree}
use Rattle.gv_terms.specs.declared.tree.TermTree.TheVariants as tree
use Rattle.gv_terms.specs.declared.var.Var.{Var}
use Rattle.gv_lang.specs.declared.pure.Unary.{Unary}
use Rattle.gv_lang.specs.declared.pure.Unary.TheVariants as unary
use Rattle.gv_lang.specs.declared.pure.Binary.{Binary}
use Rattle.gv_lang.specs.declared.pure.Binary.TheVariants as binary
use Rattle.gv_lang.specs.Tree.{Expr, Number, Truth, Nil, NilSlice, LocalAt, One, Two}
use Rattle.gv_lang.specs.Todo.{Todo}
use Rattle.gv_resources.specs.Ghost.{Mode}
use Rattle.gv_assertions.specs.Atoms.{Atom, Item}

-- whether the crash invariant is opened: then for one step
pub data Bracket : Type 0 where
  Closed : Bracket
  Opened : Bracket
  Used : Bracket

-- what a procedure is there for
pub data Role : Type 0 where
  -- recovery, whose return is the boot
  Recovers : Role
  -- an operation, whose return is the answer of a call
  Operates : Role
  -- others call or spawn it
  Serves : Role

-- what a procedure asks and promises
pub record Procedure : Type 0 where
  pub role : Role
  pub mode : Mode
  -- the variables that its block starts with, which keep their values; and what it is given
  pub start : List Var
  pub given : List Item
  -- the variables of its results, and what it owes of them when it returns
  pub results : List Var
  pub owed : List Item
  -- in own mode what a crash must find
  pub crash : Option Atom

pub record Path : Type 0 where
  -- what the frame has still to do
  pub todo : Todo
  -- the terms of locals; of a local without one nothing is known
  pub locals : List (Option TermTree)
  pub vars : List Var
  pub facts : List TermTree
  pub atoms : List Atom
  pub mode : Mode
  pub bracket : Bracket
  -- whether recovery has run boot, and whether a step was made since the block began
  pub booted : Bool
  pub stepped : Bool
  -- in own mode the crash block that stands, by the number of its command; 0 is the empty one
  pub standing : ℕ
  pub procedure : Procedure

-- ---- the terms of expressions

abbrev pub number : ℕ → TermTree
number n = tree.Apply (op.Number n) []

abbrev pub unary_operator : Unary → Operator
unary_operator unary.Not = op.Not
unary_operator unary.Complement = op.Complement

abbrev pub binary_operator : Binary → Operator
binary_operator binary.Or = op.Or
binary_operator binary.And = op.And
binary_operator binary.Equal = op.Equal
binary_operator binary.Less = op.Less
binary_operator binary.AtMost = op.AtMost
binary_operator binary.Plus = op.Plus
binary_operator binary.Minus = op.Minus
binary_operator binary.BitOr = op.BitOr
binary_operator binary.BitXor = op.BitXor
binary_operator binary.Times = op.Times
binary_operator binary.ShiftLeft = op.ShiftLeft
binary_operator binary.ShiftRight = op.ShiftRight
binary_operator binary.BitAnd = op.BitAnd
binary_operator binary.BitClear = op.BitClear

-- the term under a number, where there is one
abbrev pub known : Option (Option TermTree) → Option TermTree
known (Some t) = t
known None = None

abbrev pub over_one : Operator → Option TermTree → Option TermTree
over_one o (Some a) = Some (tree.Apply o (a ∷ []))
over_one o None = None

abbrev pub over_two : Operator → Option TermTree → Option TermTree → Option TermTree
over_two o (Some a) (Some b) = Some (tree.Apply o (a ∷ b ∷ []))
over_two o _ _ = None

-- the term of an expression, where each local in it has one
abbrev pub term_of : List (Option TermTree) → Expr → Option TermTree
term_of locals (Number n) = Some (number n)
term_of locals (Truth true) = Some (tree.Apply op.True [])
term_of locals (Truth false) = Some (tree.Apply op.False [])
term_of locals Nil = Some (tree.Apply op.Nil [])
term_of locals NilSlice = Some (tree.Apply op.NilSlice [])
term_of locals (LocalAt x) = known (slice_get locals x)
term_of locals (One o e) = over_one (unary_operator o) (term_of locals e)
term_of locals (Two o a b) = over_two (binary_operator o) (term_of locals a) (term_of locals b)

-- ---- after a step

-- a bracket serves one step
abbrev pub after_step : Bracket → Bracket
after_step Closed = Closed
after_step Opened = Used
after_step Used = Used

abbrev pub goes_on : Path → Todo → List (Option TermTree) → List Atom → Path
goes_on h rest locals atoms = record h { todo = rest; locals = locals; atoms = atoms; bracket = after_step h.bracket; stepped = true }
