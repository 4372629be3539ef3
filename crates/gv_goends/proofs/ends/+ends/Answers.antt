use Rattle.std.proofs.Common.{true, false, not, List, Option, Some, None, refl, sym, ap, ◌∙◌, arith}
use Rattle.std.specs.Prelude.{map}
use Rattle.gv_gosyntax.specs.declared.tree.Block.{Block as DeclaredBlock}
use Rattle.gv_gosyntax.specs.declared.tree.Expr.{Expr as DeclaredExpr}
use Rattle.gv_gosyntax.specs.declared.tree.ForHeader.{ForHeader as DeclaredHeader}
use Rattle.gv_gosyntax.specs.declared.tree.Stmt.{Stmt as DeclaredStmt}
use Rattle.gv_gosyntax.specs.declared.tree.Stmt.TheVariants as stmt
use Rattle.gv_gotypes.specs.Trees.{Simple, Var, If, Nested, Jump, For, Return, Go, no_branch, branch, simple_of, expr_of, right_of, header_of, block_of}
use Rattle.gv_gotypes.specs.Returns.{ends, stmts_end, block_ends}
use Rattle.gv_goends.specs.Trees.{stmt_of, plain}
use Rattle.gv_goends.proofs.Trees.{simple_stmt, var_stmt, if_stmt, else_stmt, nested_stmt, jump_stmt, for_stmt, return_stmt, go_stmt, block_is}
use Rattle.gv_goends.proofs.Lists.{end_before, end_last}
use Rattle.gv_goends.proofs.Steps.{stmt_there, stmts_there, block_there, bound_there, block_parts, end_of, and_none, and_first, and_second}
use Rattle.gv_goends.proofs.ends.+ends.Goals as goal

pub block_ends-stmts_end-requires : goal.block_ends-stmts_end-requires
block_ends-stmts_end-requires t c =
    let place = c.statements_in-statements.result in
    let m = block_parts c.args.nodes.now c.args.at place c.block_node-node.result c.requires.some.whole c.statements_in-statements.ensures
    (c.block_node-node.ensures c.requires.some.whole c.requires.some.part) in
    let l = m.there.before in
    let d = c.decreases in
    (omega (arith, l, d), (c.requires.formed, stmts_there c.args.nodes.now c.args.at place m.statements c.requires.some.within m.there))

pub block_ends-returns : goal.block_ends-returns
block_ends-returns t c = λ b h.
    let m = block_parts c.args.nodes.now c.args.at c.statements_in-statements.result c.block_node-node.result b c.statements_in-statements.ensures (c.block_node-node.ensures b h) in
    c.stmts_end.ensures m.statements m.there.is ∙ sym (ap (λ (x : DeclaredBlock). block_ends (block_of x)) m.made ∙ ap block_ends (block_is m.start m.end m.statements))

pub stmt_ends-block_ends-first-requires : goal.stmt_ends-block_ends-first-requires
stmt_ends-block_ends-first-requires t c =
    let m = c.in-IfElse.ensures c.requires.some.whole c.requires.some.part in
    let l = m.at_body.before in
    let d = c.decreases in
    (omega (arith, l, d), (c.requires.formed, block_there c.args.nodes.now c.args.at c.in-IfElse.body m.of_body c.requires.some.within m.at_body))

pub stmt_ends-stmt_ends-second-requires : goal.stmt_ends-stmt_ends-second-requires
stmt_ends-stmt_ends-second-requires t c =
    let m = c.in-IfElse.ensures c.requires.some.whole c.requires.some.part in
    let l = m.at_other.before in
    let d = c.decreases in
    (omega (arith, l, d), (c.requires.formed, stmt_there c.args.nodes.now c.args.at c.in-IfElse.other m.of_other c.requires.some.within m.at_other))

pub stmt_ends-block_ends-requires : goal.stmt_ends-block_ends-requires
stmt_ends-block_ends-requires t c =
    let m = c.in-Nested.ensures c.requires.some.whole c.requires.some.part in
    let l = m.at_block.before in
    let d = c.decreases in
    (omega (arith, l, d), (c.requires.formed, block_there c.args.nodes.now c.args.at c.in-Nested.block m.of_block c.requires.some.within m.at_block))

pub stmt_ends-block_breaks-requires-clause-some : goal.stmt_ends-block_breaks-requires-clause-some
stmt_ends-block_breaks-requires-clause-some t c =
    let m = c.in-Forever.ensures c.requires.some.whole c.requires.some.part in
    block_there c.args.nodes.now c.args.at c.in-Forever.body m.of_body c.requires.some.within m.at_body

pub stmt_ends-bound_node-requires-clause-some : goal.stmt_ends-bound_node-requires-clause-some
stmt_ends-bound_node-requires-clause-some t c =
    let m = c.in-For.ensures c.requires.some.whole c.requires.some.part in
    bound_there c.args.nodes.now c.args.at c.in-For.condition m.of_condition c.requires.some.within m.at_condition

pub stmt_ends-block_breaks-requires-in-NoBound-clause-some : goal.stmt_ends-block_breaks-requires-in-NoBound-clause-some
stmt_ends-block_breaks-requires-in-NoBound-clause-some t c =
    let m = c.in-For.ensures c.requires.some.whole c.requires.some.part in
    block_there c.args.nodes.now c.args.at c.in-For.body m.of_body c.requires.some.within m.at_body

pub stmt_ends-returns-in-Simple : goal.stmt_ends-returns-in-Simple
stmt_ends-returns-in-Simple t c = λ s h.
    let m = c.in-Simple.ensures s h in
    end_of s (stmt.Simple m.of_simple) (Simple (simple_of m.of_simple)) false m.made (simple_stmt m.of_simple) (refl) refl

pub stmt_ends-returns-in-Var : goal.stmt_ends-returns-in-Var
stmt_ends-returns-in-Var t c = λ s h.
    let m = c.in-Var.ensures s h in
    end_of s (stmt.Var c.in-Var.word c.in-Var.name m.of_kind None) (Var c.in-Var.word c.in-Var.name m.of_kind None) false m.made (var_stmt c.in-Var.word c.in-Var.name m.of_kind None) (refl) refl

pub stmt_ends-returns-in-VarValue : goal.stmt_ends-returns-in-VarValue
stmt_ends-returns-in-VarValue t c = λ s h.
    let m = c.in-VarValue.ensures s h in
    end_of s (stmt.Var c.in-VarValue.word c.in-VarValue.name m.of_kind (Some m.of_value)) (Var c.in-VarValue.word c.in-VarValue.name m.of_kind (Some (right_of m.of_value))) false m.made (var_stmt c.in-VarValue.word c.in-VarValue.name m.of_kind (Some m.of_value)) (refl) refl

pub stmt_ends-returns-in-While : goal.stmt_ends-returns-in-While
stmt_ends-returns-in-While t c = λ s h.
    let m = c.in-While.ensures s h in
    end_of s (stmt.For c.in-While.word (record { first = None; condition = Some m.of_condition; post = None }) m.of_body) (For c.in-While.word (header_of (record { first = None; condition = Some m.of_condition; post = None })) (block_of m.of_body)) false m.made (for_stmt c.in-While.word (record { first = None; condition = Some m.of_condition; post = None }) m.of_body) (refl) refl

pub stmt_ends-returns-in-Go : goal.stmt_ends-returns-in-Go
stmt_ends-returns-in-Go t c = λ s h.
    let m = c.in-Go.ensures s h in
    end_of s (stmt.Go c.in-Go.word m.of_body) (Go c.in-Go.word (block_of m.of_body)) false m.made (go_stmt c.in-Go.word m.of_body) (refl) refl

pub stmt_ends-returns-in-Return : goal.stmt_ends-returns-in-Return
stmt_ends-returns-in-Return t c = λ s h.
    let m = c.in-Return.ensures s h in
    end_of s (stmt.Return c.in-Return.word m.of_rights) (Return c.in-Return.word (map right_of m.of_rights)) true m.made (return_stmt c.in-Return.word m.of_rights) (refl) refl

pub stmt_ends-returns-in-If : goal.stmt_ends-returns-in-If
stmt_ends-returns-in-If t c = λ s h.
    let m = c.in-If.ensures s h in
    end_of s (stmt.If c.in-If.word m.of_condition m.of_body None) (If c.in-If.word (expr_of m.of_condition) (block_of m.of_body) no_branch) false m.made (if_stmt c.in-If.word m.of_condition m.of_body) (and_none (block_ends (block_of m.of_body))) refl

pub stmt_ends-returns-then-first : goal.stmt_ends-returns-then-first
stmt_ends-returns-then-first t c = λ s h.
    let m = c.in-IfElse.ensures s h in
    end_of s (stmt.If c.in-IfElse.word m.of_condition m.of_body (Some m.of_other)) (If c.in-IfElse.word (expr_of m.of_condition) (block_of m.of_body) (branch (stmt_of m.of_other))) c.stmt_ends-second.result m.made (else_stmt c.in-IfElse.word m.of_condition m.of_body m.of_other) (and_second c.block_ends-first.result (block_ends (block_of m.of_body)) c.stmt_ends-second.result (ends (stmt_of m.of_other)) (c.block_ends-first.ensures m.of_body m.at_body.is) c.if-first.true (c.stmt_ends-second.ensures m.of_other m.at_other.is).same) refl

pub stmt_ends-returns-else-first : goal.stmt_ends-returns-else-first
stmt_ends-returns-else-first t c = λ s h.
    let m = c.in-IfElse.ensures s h in
    end_of s (stmt.If c.in-IfElse.word m.of_condition m.of_body (Some m.of_other)) (If c.in-IfElse.word (expr_of m.of_condition) (block_of m.of_body) (branch (stmt_of m.of_other))) c.block_ends-first.result m.made (else_stmt c.in-IfElse.word m.of_condition m.of_body m.of_other) (and_first c.block_ends-first.result (block_ends (block_of m.of_body)) (ends (stmt_of m.of_other)) (c.block_ends-first.ensures m.of_body m.at_body.is) c.if-first.false) refl

pub stmt_ends-returns-in-Nested : goal.stmt_ends-returns-in-Nested
stmt_ends-returns-in-Nested t c = λ s h.
    let m = c.in-Nested.ensures s h in
    end_of s (stmt.Block m.of_block) (Nested (block_of m.of_block)) c.block_ends.result m.made (nested_stmt m.of_block) (c.block_ends.ensures m.of_block m.at_block.is) refl

pub stmt_ends-returns-in-Forever : goal.stmt_ends-returns-in-Forever
stmt_ends-returns-in-Forever t c = λ s h.
    let m = c.in-Forever.ensures s h in
    end_of s (stmt.For c.in-Forever.word (record { first = None; condition = None; post = None }) m.of_body) (For c.in-Forever.word (header_of (record { first = None; condition = None; post = None })) (block_of m.of_body)) (not c.block_breaks.result) m.made (for_stmt c.in-Forever.word (record { first = None; condition = None; post = None }) m.of_body) (ap not (c.block_breaks.ensures m.of_body m.at_body.is)) refl

pub stmt_ends-returns-in-Jump : goal.stmt_ends-returns-in-Jump
stmt_ends-returns-in-Jump t c = λ s h. end_of s (stmt.Jump c.in-Jump.word) (Jump c.in-Jump.word) false (c.in-Jump.ensures s h) (jump_stmt c.in-Jump.word) refl refl

pub stmt_ends-returns-in-NoBound : goal.stmt_ends-returns-in-NoBound
stmt_ends-returns-in-NoBound t c = λ s h.
    let m = c.in-For.ensures s h in
    let q = c.in-NoBound.ensures m.of_condition m.at_condition.is in
    let header : DeclaredHeader = record { first = m.of_first; condition = None; post = m.of_post } in
    end_of s (stmt.For c.in-For.word header m.of_body) (For c.in-For.word (header_of header) (block_of m.of_body)) (not c.block_breaks-in-NoBound.result)
    (m.made ∙ ap (λ (o : Option DeclaredExpr). let y : DeclaredHeader = record { first = m.of_first; condition = o; post = m.of_post } in stmt.For c.in-For.word y m.of_body) q)
    (for_stmt c.in-For.word header m.of_body) (ap not (c.block_breaks-in-NoBound.ensures m.of_body m.at_body.is)) refl

pub stmt_ends-returns-in-Bound : goal.stmt_ends-returns-in-Bound
stmt_ends-returns-in-Bound t c = λ s h.
    let m = c.in-For.ensures s h in
    let b = c.in-Bound.ensures m.of_condition m.at_condition.is in
    let q = b.made in
    let header : DeclaredHeader = record { first = m.of_first; condition = Some b.of_inner; post = m.of_post } in
    end_of s (stmt.For c.in-For.word header m.of_body) (For c.in-For.word (header_of header) (block_of m.of_body)) false
    (m.made ∙ ap (λ (o : Option DeclaredExpr). let y : DeclaredHeader = record { first = m.of_first; condition = o; post = m.of_post } in stmt.For c.in-For.word y m.of_body) q)
    (for_stmt c.in-For.word header m.of_body) (refl) refl

pub stmts_end-returns-in-NoStmts : goal.stmts_end-returns-in-NoStmts
stmts_end-returns-in-NoStmts t c = λ ss h.
    let r = c.loop-stmt.invariant.rest ss h in
    sym (r.same ∙ ap (λ (x : List DeclaredStmt). stmts_end (plain x)) (c.in-NoStmts.ensures r.left r.there))

pub stmts_end-stmt_ends-requires : goal.stmts_end-stmt_ends-requires
stmts_end-stmt_ends-requires t c =
    let i = c.loop-stmt.invariant in
    let m = c.in-Stmt.ensures i.some.whole i.some.part in
    let l = m.at_stmt.before in
    let b = i.below in
    let d = c.decreases in
    (omega (arith, l, b, d), (c.requires.formed, stmt_there c.args.nodes.now c.loop-stmt.place c.in-Stmt.stmt m.of_stmt i.some.within m.at_stmt))

pub stmts_end-returns-in-Stmt : goal.stmts_end-returns-in-Stmt
stmts_end-returns-in-Stmt t c = λ ss h.
    let r = c.loop-stmt.invariant.rest ss h in
    let m = c.in-Stmt.ensures r.left r.there in
    let k = c.stmt_ends.ensures m.of_stmt m.at_stmt.is in
    k.same ∙ sym (r.same ∙ ap (λ (x : List DeclaredStmt). stmts_end (plain x)) m.made ∙ end_last m.of_stmts m.of_stmt k.some)

pub stmts_end-loop-stmt-smaller-in-Empty : goal.stmts_end-loop-stmt-smaller-in-Empty
stmts_end-loop-stmt-smaller-in-Empty t c = let i = c.loop-stmt.invariant in let m = c.in-Empty.ensures i.some.whole i.some.part in m.at_stmts.before

pub stmts_end-loop-stmt-preserved-in-Empty : goal.stmts_end-loop-stmt-preserved-in-Empty
stmts_end-loop-stmt-preserved-in-Empty t c =
    let i = c.loop-stmt.invariant in
    let m = c.in-Empty.ensures i.some.whole i.some.part in
    let l = m.at_stmts.before in
    let b = i.below in
    record {
      below = omega (arith, l, b);
      some = stmts_there c.args.nodes.now c.loop-stmt.place c.in-Empty.stmts m.of_stmts i.some.within m.at_stmts;
      rest = λ ss h.
          let r = i.rest ss h in
          let n = c.in-Empty.ensures r.left r.there in
          record { left = n.of_stmts; there = n.at_stmts.is; same = r.same ∙ ap (λ (x : List DeclaredStmt). stmts_end (plain x)) n.made ∙ end_before n.of_stmts };
    }

pub stmts_end-loop-stmt-smaller : goal.stmts_end-loop-stmt-smaller
stmts_end-loop-stmt-smaller t c = let i = c.loop-stmt.invariant in let m = c.in-PastStmts.ensures i.some.whole i.some.part in m.at_stmts.before

pub stmts_end-loop-stmt-preserved : goal.stmts_end-loop-stmt-preserved
stmts_end-loop-stmt-preserved t c =
    let i = c.loop-stmt.invariant in
    let m = c.in-PastStmts.ensures i.some.whole i.some.part in
    let l = m.at_stmts.before in
    let b = i.below in
    record {
      below = omega (arith, l, b);
      some = stmts_there c.args.nodes.now c.loop-stmt.place c.in-PastStmts.stmts m.of_stmts i.some.within m.at_stmts;
      rest = λ ss h.
          let r = i.rest ss h in
          let n = c.in-PastStmts.ensures r.left r.there in
          record { left = n.of_stmts; there = n.at_stmts.is; same = r.same ∙ ap (λ (x : List DeclaredStmt). stmts_end (plain x)) n.made };
    }
