-- What is found in statements, and what is declared behind each.
use Rattle.std.specs.Prelude.{ℕ, ◌==◌, ◌||◌, not, if◌then◌else◌, List, [], ◌∷◌, ◌++◌, Option, Some, None, length}
use Rattle.gv_base.specs.declared.answers.Code.TheVariants.{Twice, WrongType, WrongCount}
use Rattle.gv_gosyntax.specs.declared.generated.gosyntax_table.TheConstants.{CLASS_DEFINE}
use Rattle.gv_gosyntax.specs.declared.lexeme.Lexeme.{Lexeme}
use Rattle.gv_gotypes.specs.Trees.{Expr, Name, Right, Value, Result, SimpleStmt, Assign, Count, Update, Calling, ForHeader, Stmt, Empty, Simple, Var, If, Nested, Jump, For, Return, Go, Block, braces, Stmts, no_more, next, Else, no_branch, branch}
use Rattle.gv_operands.specs.declared.types.GoType.{GoType}
use Rattle.gv_operands.specs.declared.types.GoType.TheVariants.{Word, Boolean}
use Rattle.gv_operands.specs.Types.{same_type}
use Rattle.gv_gotypes.specs.Types.{Finding, Fault, unless}
use Rattle.gv_gotypes.specs.Scopes.{Env, name_in, is_blank, is_here, opened, in_literal, with_variable}
use Rattle.gv_gotypes.specs.Kinds.{kind_of, kind_findings}
use Rattle.gv_operands.specs.declared.part.Want.{Want}
use Rattle.gv_operands.specs.declared.part.Want.TheVariants.{Exactly, Unknown}
use Rattle.gv_gotypes.specs.Places.{start_of, spot_of, want}
use Rattle.gv_gotypes.specs.Expressions.{operand, zero_divisor}
use Rattle.gv_gotypes.specs.Calls.{Answer, answer, call_start, placed}
use Rattle.gv_gotypes.specs.Assigning.{Target, target, targets, left_findings, right_findings, result_findings, given_types, declaring}

-- ---- statements that may stand in the header of a `for`

-- where an assignment begins
abbrev pub first_start : List Expr → ℕ
first_start [] = 0
first_start (e ∷ es) = start_of e

-- what `x++` and `x op= e` read and assign: `_` is nothing to read
abbrev pub counted_target : Env → Expr → Target
counted_target env (Name t) =
    if is_blank (name_in env.source t) then record { wants = Unknown; findings = (operand env (Name t)).findings } else target env (Name t)
counted_target env other = target env other

abbrev pub word_wanted : ℕ → Want → List Finding
word_wanted at (Exactly t) = unless (same_type t Word) at WrongType
word_wanted at w = []

-- the variable is a word
abbrev pub counted : Env → Expr → List Finding
counted env e = let t = counted_target env e in t.findings ++ word_wanted (start_of e) t.wants

abbrev pub divisor : Env → ℕ → Expr → List Finding
divisor env sign e = elim (operand env e).class [ None ↦ [] | Some c ↦ zero_divisor sign (spot_of e) c ]

abbrev pub simple_findings : Env → SimpleStmt → List Finding
simple_findings env (Assign ls s r) =
    left_findings env s.class ls ++ right_findings env (targets env s.class ls) (first_start ls) r
simple_findings env (Count e s) = counted env e
simple_findings env (Update e s f) = counted env e ++ (placed env (Exactly Word) f ++ divisor env s.class f)
simple_findings env (Calling c) = (answer env c).findings

abbrev pub simple_after : Env → SimpleStmt → Env
simple_after env (Assign ls s r) =
    if s.class == CLASS_DEFINE then declaring env ls (given_types env ls r) else env
simple_after env other = env

abbrev pub part_findings : Env → Option SimpleStmt → List Finding
part_findings env None = []
part_findings env (Some s) = simple_findings env s

abbrev pub part_after : Env → Option SimpleStmt → Env
part_after env None = env
part_after env (Some s) = simple_after env s

-- ---- declarations of variables

abbrev pub value_findings : Env → Want → ℕ → Option Right → List Finding
value_findings env w statement None = []
value_findings env w statement (Some r) = right_findings env (record { wants = w; findings = [] } ∷ []) statement r

-- a name that is declared in the same block already is Twice
abbrev pub name_findings : Env → Lexeme → List Finding
name_findings env t = unless (is_blank (name_in env.source t) || not (is_here env.entries (name_in env.source t))) t.start Twice

-- ---- returns

-- each value in the place of its result
abbrev pub returned : Env → List (Option GoType) → List Right → List Finding
returned env ks [] = []
returned env ks (Result c ∷ rs) = (answer env c).findings ++ returned env ks rs
returned env [] (Value e ∷ rs) = placed env Unknown e ++ returned env [] rs
returned env (k ∷ ks) (Value e ∷ rs) = placed env (want k) e ++ returned env ks rs

abbrev pub wanted : List (Option GoType) → List Target
wanted [] = []
wanted (k ∷ ks) = record { wants = want k; findings = [] } ∷ wanted ks

-- `return f()` gives the results of the call, and stands in no function without results
abbrev pub returned_call : List (Option GoType) → Answer → ℕ → ℕ → List Finding
returned_call [] a word start = Fault word WrongCount ∷ []
returned_call ks a word start = result_findings (wanted ks) a.results word start

abbrev pub return_findings : Env → ℕ → List Right → List Finding
return_findings env word (Result c ∷ []) = let a = answer env c in a.findings ++ returned_call env.results a word (call_start c)
return_findings env word rs = unless (length rs == length env.results) word WrongCount ++ returned env env.results rs

-- ---- every statement

abbrev pub header_env : Env → ForHeader → Env
header_env env h = part_after (opened env) h.first

abbrev pub condition_findings : Env → Option Expr → List Finding
condition_findings env None = []
condition_findings env (Some e) = placed env (Exactly Boolean) e

-- the header's variables are seen in the condition, in the last part and in the block
abbrev pub header_findings : Env → ForHeader → List Finding
header_findings env h =
    part_findings (opened env) h.first ++ (condition_findings (header_env env h) h.condition ++ part_findings (header_env env h) h.post)

abbrev pub after : Env → Stmt → Env
after env (Simple s) = simple_after env s
after env (Var w t k r) = with_variable env t (kind_of env k)
after env other = env

abbrev mutual
  pub stmt_findings : Env → Stmt → List Finding
  stmt_findings env Empty = []
  stmt_findings env (Simple s) = simple_findings env s
  stmt_findings env (Var w t k r) =
      kind_findings env k ++ (value_findings env (want (kind_of env k)) w.start r ++ name_findings env t)
  stmt_findings env (If w e b o) = placed env (Exactly Boolean) e ++ (block_findings (opened env) b ++ else_findings env o)
  stmt_findings env (Nested b) = block_findings (opened env) b
  stmt_findings env (Jump w) = []
  stmt_findings env (For w h b) = header_findings env h ++ block_findings (opened (header_env env h)) b
  stmt_findings env (Return w rs) = return_findings env w.start rs
  stmt_findings env (Go w b) = block_findings (in_literal env) b

  -- of a block whose scope is there already
  pub block_findings : Env → Block → List Finding
  block_findings env (braces o ss c) = stmts_findings env ss

  pub stmts_findings : Env → Stmts → List Finding
  stmts_findings env no_more = []
  stmts_findings env (next s ss) = stmt_findings env s ++ stmts_findings (after env s) ss

  pub else_findings : Env → Else → List Finding
  else_findings env no_branch = []
  else_findings env (branch s) = stmt_findings env s
