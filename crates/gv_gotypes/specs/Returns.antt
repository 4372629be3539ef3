-- Bodies that end in a return: no run of them reaches their end.
use Rattle.std.specs.Prelude.{Bool, true, false, ◌&&◌, ◌||◌, ◌==◌, not, if◌then◌else◌, is_none}
use Rattle.gv_gosyntax.specs.declared.generated.gosyntax_table.TheConstants.{CLASS_BREAK}
use Rattle.gv_gotypes.specs.Trees.{Stmt, Empty, Simple, Var, If, Nested, Jump, For, Return, Go, Block, braces, Stmts, no_more, next, Else, no_branch, branch}

-- ---- breaks

abbrev mutual
  -- a `break` stands in it that leaves what is around it: not within a `for` or a literal of its own
  pub breaks : Stmt → Bool
  breaks (Jump w) = w.class == CLASS_BREAK
  breaks (If w e b o) = block_breaks b || else_breaks o
  breaks (Nested b) = block_breaks b
  breaks Empty = false
  breaks (Simple s) = false
  breaks (Var w t k r) = false
  breaks (For w h b) = false
  breaks (Return w rs) = false
  breaks (Go w b) = false

  pub block_breaks : Block → Bool
  block_breaks (braces o ss c) = stmts_break ss

  pub stmts_break : Stmts → Bool
  stmts_break no_more = false
  stmts_break (next s ss) = breaks s || stmts_break ss

  pub else_breaks : Else → Bool
  else_breaks no_branch = false
  else_breaks (branch s) = breaks s

-- ---- ends

-- nothing but empty statements
abbrev pub is_empty : Stmts → Bool
is_empty no_more = true
is_empty (next Empty ss) = is_empty ss
is_empty (next s ss) = false

abbrev mutual
  -- a return; a `for` without a condition and without a `break` of its own; an `if` whose two branches end so; or a block that ends so
  pub ends : Stmt → Bool
  ends (Return w rs) = true
  ends (For w h b) = is_none h.condition && not (block_breaks b)
  ends (If w e b o) = block_ends b && else_ends o
  ends (Nested b) = block_ends b
  ends Empty = false
  ends (Simple s) = false
  ends (Var w t k r) = false
  ends (Jump w) = false
  ends (Go w b) = false

  pub block_ends : Block → Bool
  block_ends (braces o ss c) = stmts_end ss

  -- the last statement that isn't empty does
  pub stmts_end : Stmts → Bool
  stmts_end no_more = false
  stmts_end (next s ss) = if is_empty ss then ends s else stmts_end ss

  pub else_ends : Else → Bool
  else_ends no_branch = false
  else_ends (branch s) = ends s
