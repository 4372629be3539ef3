-- What each act makes of the parts, the top one first. Made by tools/grammar.py from sample.grammar: edit that.
use Rattle.std.specs.Prelude.{Bool, true, false, List, [], ◌∷◌, ◌++◌, Some, None, Option}
use Rattle.gv_grammar.specs.declared.steps.Step.{Step}
use Rattle.gv_grammar.specs.Building.{Reduction, act_of, run}
use Rattle.grammar_sample.specs.declared.generated.sample_acts.Part.{Part}
use Rattle.grammar_sample.specs.declared.generated.sample_acts.Part.TheVariants.{Token as PToken, Expr as PExpr, Args as PArgs, Head as PHead, Call as PCall, Right as PRight, Stmt as PStmt, Stmts as PStmts}
use Rattle.grammar_sample.specs.declared.tree.Token.{Token}
use Rattle.grammar_sample.specs.declared.tree.Expr.TheVariants.{Number, Name, Apply, Select, Not, Binary}
use Rattle.grammar_sample.specs.declared.tree.Right.TheVariants.{Value, Result}
use Rattle.grammar_sample.specs.declared.tree.Stmt.TheVariants.{Assign, Called, Block, If}
use Rattle.grammar_sample.specs.Tree.{named_by, left_by}

abbrev pub is_token : Part → Bool
is_token (PToken of) = true
is_token part = false

abbrev pub is_expr : Part → Bool
is_expr (PExpr of) = true
is_expr part = false

abbrev pub is_args : Part → Bool
is_args (PArgs of) = true
is_args part = false

abbrev pub is_head : Part → Bool
is_head (PHead of) = true
is_head part = false

abbrev pub is_call : Part → Bool
is_call (PCall of) = true
is_call part = false

abbrev pub is_right : Part → Bool
is_right (PRight of) = true
is_right part = false

abbrev pub is_stmt : Part → Bool
is_stmt (PStmt of) = true
is_stmt part = false

abbrev pub is_stmts : Part → Bool
is_stmts (PStmts of) = true
is_stmts part = false

abbrev pub made_begin : List Part → List Part
made_begin parts = PStmts ([]) ∷ parts

abbrev pub made_block : List Part → List Part
made_block (PToken _ ∷ PStmts stmts ∷ PToken _ ∷ parts) = PStmts (stmts) ∷ parts
made_block parts = parts

abbrev pub made_add : List Part → List Part
made_add (PStmt stmt ∷ PStmts stmts ∷ parts) = PStmts (stmts ++ stmt ∷ []) ∷ parts
made_add parts = parts

abbrev pub made_separated : List Part → List Part
made_separated (PToken _ ∷ PStmts stmts ∷ parts) = PStmts (stmts) ∷ parts
made_separated parts = parts

abbrev pub made_nested : List Part → List Part
made_nested (PStmts stmts ∷ parts) = PStmt (Block stmts) ∷ parts
made_nested parts = parts

abbrev pub made_if : List Part → List Part
made_if (PStmts stmts ∷ PExpr condition ∷ PToken _ ∷ parts) = PStmt (If condition stmts None) ∷ parts
made_if parts = parts

abbrev pub made_if_else : List Part → List Part
made_if_else (PStmt other ∷ PToken _ ∷ PStmts stmts ∷ PExpr condition ∷ PToken _ ∷ parts) = PStmt (If condition stmts (Some other)) ∷ parts
made_if_else parts = parts

abbrev pub made_head : List Part → List Part
made_head (PToken name ∷ parts) = PHead (record { of = None; name = name.value }) ∷ parts
made_head parts = parts

abbrev pub made_number : List Part → List Part
made_number (PToken token ∷ parts) = PExpr (Number token.value) ∷ parts
made_number parts = parts

abbrev pub made_none : List Part → List Part
made_none parts = PArgs ([]) ∷ parts

abbrev pub made_apply : List Part → List Part
made_apply (PToken _ ∷ PArgs arguments ∷ PToken _ ∷ PToken function ∷ parts) = PExpr (Apply function.value arguments) ∷ parts
made_apply parts = parts

abbrev pub made_paren : List Part → List Part
made_paren (PToken _ ∷ PExpr inner ∷ PToken _ ∷ parts) = PExpr (inner) ∷ parts
made_paren parts = parts

abbrev pub made_member : List Part → List Part
made_member (PToken name ∷ PToken _ ∷ PExpr inner ∷ parts) = PHead (record { of = Some inner; name = name.value }) ∷ parts
made_member parts = parts

abbrev pub made_more : List Part → List Part
made_more (PToken name ∷ PToken _ ∷ PHead head ∷ parts) = PHead (record { of = Some (named_by head); name = name.value }) ∷ parts
made_more parts = parts

abbrev pub made_call : List Part → List Part
made_call (PToken _ ∷ PArgs arguments ∷ PToken _ ∷ PHead head ∷ parts) = PCall (record { receiver = head.of; name = head.name; arguments = arguments }) ∷ parts
made_call parts = parts

abbrev pub made_called : List Part → List Part
made_called (PCall call ∷ parts) = PStmt (Called call) ∷ parts
made_called parts = parts

abbrev pub made_assign : List Part → List Part
made_assign (PRight right ∷ PToken sign ∷ PHead head ∷ parts) = PStmt (Assign (left_by head) sign right) ∷ parts
made_assign parts = parts

abbrev pub made_not : List Part → List Part
made_not (PExpr inner ∷ PToken _ ∷ parts) = PExpr (Not inner) ∷ parts
made_not parts = parts

abbrev pub made_value : List Part → List Part
made_value (PExpr inner ∷ parts) = PRight (Value inner) ∷ parts
made_value parts = parts

abbrev pub made_call_value : List Part → List Part
made_call_value (PCall call ∷ parts) = PRight (Result call) ∷ parts
made_call_value parts = parts

abbrev pub made_operand : List Part → List Part
made_operand (PHead head ∷ parts) = PExpr (named_by head) ∷ parts
made_operand parts = parts

abbrev pub made_binary : List Part → List Part
made_binary (PExpr right ∷ PToken sign ∷ PExpr left ∷ parts) = PExpr (Binary sign left right) ∷ parts
made_binary parts = parts

abbrev pub made_name : List Part → List Part
made_name (PToken token ∷ parts) = PExpr (Name token.value) ∷ parts
made_name parts = parts

abbrev pub made_select : List Part → List Part
made_select (PToken name ∷ PToken _ ∷ PExpr inner ∷ parts) = PExpr (Select inner name.value) ∷ parts
made_select parts = parts

abbrev pub made_first : List Part → List Part
made_first (PExpr last ∷ PArgs arguments ∷ parts) = PArgs (arguments ++ last ∷ []) ∷ parts
made_first parts = parts

abbrev pub made_next : List Part → List Part
made_next (PExpr last ∷ PToken _ ∷ PArgs arguments ∷ parts) = PArgs (arguments ++ last ∷ []) ∷ parts
made_next parts = parts

-- the acts, from the first number behind the marks on
abbrev pub sample_acts : List (Reduction Part)
sample_acts =
    record { takes = []; makes = made_begin }
    ∷ record { takes = is_token ∷ is_stmts ∷ is_token ∷ []; makes = made_block }
    ∷ record { takes = is_stmt ∷ is_stmts ∷ []; makes = made_add }
    ∷ record { takes = is_token ∷ is_stmts ∷ []; makes = made_separated }
    ∷ record { takes = is_stmts ∷ []; makes = made_nested }
    ∷ record { takes = is_stmts ∷ is_expr ∷ is_token ∷ []; makes = made_if }
    ∷ record { takes = is_stmt ∷ is_token ∷ is_stmts ∷ is_expr ∷ is_token ∷ []; makes = made_if_else }
    ∷ record { takes = is_token ∷ []; makes = made_head }
    ∷ record { takes = is_token ∷ []; makes = made_number }
    ∷ record { takes = []; makes = made_none }
    ∷ record { takes = is_token ∷ is_args ∷ is_token ∷ is_token ∷ []; makes = made_apply }
    ∷ record { takes = is_token ∷ is_expr ∷ is_token ∷ []; makes = made_paren }
    ∷ record { takes = is_token ∷ is_token ∷ is_expr ∷ []; makes = made_member }
    ∷ record { takes = is_token ∷ is_token ∷ is_head ∷ []; makes = made_more }
    ∷ record { takes = is_token ∷ is_args ∷ is_token ∷ is_head ∷ []; makes = made_call }
    ∷ record { takes = is_call ∷ []; makes = made_called }
    ∷ record { takes = is_right ∷ is_token ∷ is_head ∷ []; makes = made_assign }
    ∷ record { takes = is_expr ∷ is_token ∷ []; makes = made_not }
    ∷ record { takes = is_expr ∷ []; makes = made_value }
    ∷ record { takes = is_call ∷ []; makes = made_call_value }
    ∷ record { takes = is_head ∷ []; makes = made_operand }
    ∷ record { takes = is_expr ∷ is_token ∷ is_expr ∷ []; makes = made_binary }
    ∷ record { takes = is_token ∷ []; makes = made_name }
    ∷ record { takes = is_token ∷ is_token ∷ is_expr ∷ []; makes = made_select }
    ∷ record { takes = is_expr ∷ is_args ∷ []; makes = made_first }
    ∷ record { takes = is_expr ∷ is_token ∷ is_args ∷ []; makes = made_next }
    ∷ []

-- the parts that steps leave of tokens
abbrev pub sample_built : List Step → List Token → Option (List Part)
sample_built steps tokens = run PToken (act_of sample_acts) steps tokens []
