-- The program of a package of the small form: `New` and `Return` for recovery, and one `Return` for each operation.
use Rattle.std.specs.Prelude.{ℕ, suc, List, [], ◌∷◌, ◌++◌, length, fold, if◌then◌else◌, codes}
use Rattle.std.specs.Fmt.{decimal}
use Rattle.std.specs.Str.{bytes_eq}
use Rattle.gv_base.specs.declared.answers.Place.{Place}
use Rattle.gv_base.specs.declared.small.Small.{Small}
use Rattle.gv_base.specs.declared.small.SmallOp.{SmallOp}
use Rattle.gv_base.specs.declared.small.Turn.{Turn}
use Rattle.gv_base.specs.declared.small.Part.{Part}
use Rattle.gv_base.specs.declared.small.Part.TheVariants as part
use Rattle.gv_lang.specs.declared.pure.Binary.{Binary}
use Rattle.gv_lang.specs.declared.pure.Binary.TheVariants as binary
use Rattle.gv_lang.specs.declared.program.LocalKind.TheVariants as kind
use Rattle.gv_lang.specs.declared.program.Local.{Local}
use Rattle.gv_lang.specs.Tree.{Expr, Number, LocalAt, Two, New, Do, Return, finish, next, Proc, Program}

-- What the text of a package tells besides, of which the small form keeps nothing.
pub record Unkept : Type 0 where
  pub type_name : List ℕ
  -- the receiver's name in the method of the operation under a number, counted from 0
  pub receiver : ℕ → List ℕ
  -- where the statement of recovery stands, and that of each method
  pub recovers : Place
  pub returns : ℕ → Place

-- no place of a text, since lines are counted from 1
abbrev pub nowhere : Place
nowhere = record { line = 0; column = 0 }

-- what stands in for it where it is not kept
abbrev pub nothing_kept : Unkept
nothing_kept = record { type_name = []; receiver = λ number. []; recovers = nowhere; returns = λ number. nowhere }

-- ---- Sums

-- the first local is the receiver
abbrev pub part_expr : Part → Expr
part_expr (part.Param place) = LocalAt (suc place)
part_expr (part.Number value) = Number value

abbrev pub turn_operator : Turn → Binary
turn_operator turn = if turn.minus then binary.Minus else binary.Plus

abbrev pub turn_expr : Expr → Turn → Expr
turn_expr total turn = Two (turn_operator turn) total (part_expr turn.part)

-- an operation's Sum, from the left
abbrev pub sum_expr : SmallOp → Expr
sum_expr op = fold turn_expr (part_expr op.first) op.rest

-- ---- procedures

-- a parameter or a receiver that has no name is named by its place, counted from 1 with the receiver first
abbrev pub local_name : ℕ → List ℕ → List ℕ
local_name place name = if bytes_eq name (codes "_") then codes "_." ++ decimal place else name

abbrev pub param_local : ℕ → List ℕ → Local
param_local place name = record { name = local_name place name; kind = kind.Word }

abbrev pub param_locals : ℕ → List (List ℕ) → List Local
param_locals place [] = []
param_locals place (name ∷ names) = param_local place name ∷ param_locals (suc place) names

abbrev pub method_locals : List ℕ → SmallOp → List Local
method_locals receiver op = record { name = local_name 1 receiver; kind = kind.Ref } ∷ param_locals 2 op.params

-- the receiver is a parameter
abbrev pub param_count : SmallOp → ℕ
param_count op = suc (length op.params)

abbrev pub method_name : List ℕ → SmallOp → List ℕ
method_name type_name op = type_name ++ (codes "." ++ op.name)

-- func (RECEIVER *T) NAME(PARAMETERS) uint64 { return SUM }
abbrev pub method_proc : List ℕ → List ℕ → Place → SmallOp → Proc
method_proc type_name receiver place op = record {
  name = method_name type_name op;
  params = param_count op;
  locals = method_locals receiver op;
  results = kind.Word ∷ [];
  body = next (Return (sum_expr op ∷ []) place) finish;
}

-- func Recover() *T { return &T{} }, which sets a temporary first
abbrev pub recovery_proc : Place → Proc
recovery_proc place = record {
  name = codes "Recover";
  params = 0;
  locals = record { name = codes "t.1"; kind = kind.Ref } ∷ [];
  results = kind.Ref ∷ [];
  body = next (Do (New 0 0 []) place) (next (Return (LocalAt 0 ∷ []) place) finish);
}

-- ---- the program

-- numbers from this one on, one for each operation
abbrev pub numbers_from : ℕ → List SmallOp → List ℕ
numbers_from number [] = []
numbers_from number (op ∷ ops) = number ∷ numbers_from (suc number) ops

abbrev pub methods_from : Unkept → ℕ → List SmallOp → List Proc
methods_from unkept number [] = []
methods_from unkept number (op ∷ ops) =
    method_proc unkept.type_name (unkept.receiver number) (unkept.returns number) op ∷ methods_from unkept (suc number) ops

-- the struct without fields, recovery, and behind it the operations in the order of the text
abbrev pub program_with : Unkept → Small → Program
program_with unkept small = record {
  structs = record { name = unkept.type_name; fields = [] } ∷ [];
  procs = recovery_proc unkept.recovers ∷ methods_from unkept 0 small.ops;
  recover = 0;
  ops = numbers_from 1 small.ops;
}

abbrev pub program_of : Small → Program
program_of small = program_with nothing_kept small
