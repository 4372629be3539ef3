use Rattle.std.proofs.Common.{false, List, Some, None, refl, sym, ap, ◌∙◌, arith}
use Rattle.std.specs.Prelude.{map}
use Rattle.gv_gosyntax.specs.declared.tree.Block.{Block as DeclaredBlock}
use Rattle.gv_gosyntax.specs.declared.tree.Stmt.{Stmt as DeclaredStmt}
use Rattle.gv_gosyntax.specs.declared.tree.Stmt.TheVariants as stmt
use Rattle.gv_gotypes.specs.Trees.{Simple, Var, If, Nested, For, Return, Go, no_branch, branch, simple_of, expr_of, right_of, header_of, block_of}
use Rattle.gv_gotypes.specs.Returns.{breaks, stmts_break, block_breaks}
use Rattle.gv_goends.specs.Trees.{stmt_of, plain}
use Rattle.gv_goends.proofs.Trees.{simple_stmt, var_stmt, if_stmt, else_stmt, nested_stmt, jump_stmt, for_stmt, return_stmt, go_stmt, block_is}
use Rattle.gv_goends.proofs.Lists.{break_last, break_before, no_break, or_none}
use Rattle.gv_goends.proofs.Steps.{stmt_there, stmts_there, block_there, block_parts, of_form, or_first, or_second}
use Rattle.gv_goends.proofs.breaks.+breaks.Goals as goal

pub block_breaks-stmts_break-requires : goal.block_breaks-stmts_break-requires
block_breaks-stmts_break-requires t c =
    let place = c.statements_in-statements.result in
    let m = block_parts c.args.nodes.now c.args.at place c.block_node-node.result c.requires.some.whole c.statements_in-statements.ensures
    (c.block_node-node.ensures c.requires.some.whole c.requires.some.part) in
    let l = m.there.before in
    let d = c.decreases in
    (omega (arith, l, d), (c.requires.formed, stmts_there c.args.nodes.now c.args.at place m.statements c.requires.some.within m.there))

pub block_breaks-returns : goal.block_breaks-returns
block_breaks-returns t c = λ b h.
    let m = block_parts c.args.nodes.now c.args.at c.statements_in-statements.result c.block_node-node.result b c.statements_in-statements.ensures (c.block_node-node.ensures b h) in
    c.stmts_break.ensures m.statements m.there.is ∙ sym (ap (λ (x : DeclaredBlock). block_breaks (block_of x)) m.made ∙ ap block_breaks (block_is m.start m.end m.statements))

pub stmt_breaks-block_breaks-requires : goal.stmt_breaks-block_breaks-requires
stmt_breaks-block_breaks-requires t c =
    let m = c.in-If.ensures c.requires.some.whole c.requires.some.part in
    let l = m.at_body.before in
    let d = c.decreases in
    (omega (arith, l, d), (c.requires.formed, block_there c.args.nodes.now c.args.at c.in-If.body m.of_body c.requires.some.within m.at_body))

pub stmt_breaks-block_breaks-first-requires : goal.stmt_breaks-block_breaks-first-requires
stmt_breaks-block_breaks-first-requires t c =
    let m = c.in-IfElse.ensures c.requires.some.whole c.requires.some.part in
    let l = m.at_body.before in
    let d = c.decreases in
    (omega (arith, l, d), (c.requires.formed, block_there c.args.nodes.now c.args.at c.in-IfElse.body m.of_body c.requires.some.within m.at_body))

pub stmt_breaks-stmt_breaks-second-requires : goal.stmt_breaks-stmt_breaks-second-requires
stmt_breaks-stmt_breaks-second-requires t c =
    let m = c.in-IfElse.ensures c.requires.some.whole c.requires.some.part in
    let l = m.at_other.before in
    let d = c.decreases in
    (omega (arith, l, d), (c.requires.formed, stmt_there c.args.nodes.now c.args.at c.in-IfElse.other m.of_other c.requires.some.within m.at_other))

pub stmt_breaks-block_breaks-requires-in-Nested : goal.stmt_breaks-block_breaks-requires-in-Nested
stmt_breaks-block_breaks-requires-in-Nested t c =
    let m = c.in-Nested.ensures c.requires.some.whole c.requires.some.part in
    let l = m.at_block.before in
    let d = c.decreases in
    (omega (arith, l, d), (c.requires.formed, block_there c.args.nodes.now c.args.at c.in-Nested.block m.of_block c.requires.some.within m.at_block))

pub stmt_breaks-returns-in-Simple : goal.stmt_breaks-returns-in-Simple
stmt_breaks-returns-in-Simple t c = λ s h.
    let m = c.in-Simple.ensures s h in
    of_form breaks s (stmt.Simple m.of_simple) (Simple (simple_of m.of_simple)) false m.made (simple_stmt m.of_simple) (refl)

pub stmt_breaks-returns-in-Var : goal.stmt_breaks-returns-in-Var
stmt_breaks-returns-in-Var t c = λ s h.
    let m = c.in-Var.ensures s h in
    of_form breaks s (stmt.Var c.in-Var.word c.in-Var.name m.of_kind None) (Var c.in-Var.word c.in-Var.name m.of_kind None) false m.made (var_stmt c.in-Var.word c.in-Var.name m.of_kind None) (refl)

pub stmt_breaks-returns-in-VarValue : goal.stmt_breaks-returns-in-VarValue
stmt_breaks-returns-in-VarValue t c = λ s h.
    let m = c.in-VarValue.ensures s h in
    of_form breaks s (stmt.Var c.in-VarValue.word c.in-VarValue.name m.of_kind (Some m.of_value)) (Var c.in-VarValue.word c.in-VarValue.name m.of_kind (Some (right_of m.of_value))) false m.made (var_stmt c.in-VarValue.word c.in-VarValue.name m.of_kind (Some m.of_value)) (refl)

pub stmt_breaks-returns-in-Forever : goal.stmt_breaks-returns-in-Forever
stmt_breaks-returns-in-Forever t c = λ s h.
    let m = c.in-Forever.ensures s h in
    of_form breaks s (stmt.For c.in-Forever.word (record { first = None; condition = None; post = None }) m.of_body) (For c.in-Forever.word (header_of (record { first = None; condition = None; post = None })) (block_of m.of_body)) false m.made (for_stmt c.in-Forever.word (record { first = None; condition = None; post = None }) m.of_body) (refl)

pub stmt_breaks-returns-in-While : goal.stmt_breaks-returns-in-While
stmt_breaks-returns-in-While t c = λ s h.
    let m = c.in-While.ensures s h in
    of_form breaks s (stmt.For c.in-While.word (record { first = None; condition = Some m.of_condition; post = None }) m.of_body) (For c.in-While.word (header_of (record { first = None; condition = Some m.of_condition; post = None })) (block_of m.of_body)) false m.made (for_stmt c.in-While.word (record { first = None; condition = Some m.of_condition; post = None }) m.of_body) (refl)

pub stmt_breaks-returns-in-For : goal.stmt_breaks-returns-in-For
stmt_breaks-returns-in-For t c = λ s h.
    let m = c.in-For.ensures s h in
    of_form breaks s (stmt.For c.in-For.word (record { first = m.of_first; condition = m.of_condition; post = m.of_post }) m.of_body) (For c.in-For.word (header_of (record { first = m.of_first; condition = m.of_condition; post = m.of_post })) (block_of m.of_body)) false m.made (for_stmt c.in-For.word (record { first = m.of_first; condition = m.of_condition; post = m.of_post }) m.of_body) (refl)

pub stmt_breaks-returns-in-Return : goal.stmt_breaks-returns-in-Return
stmt_breaks-returns-in-Return t c = λ s h.
    let m = c.in-Return.ensures s h in
    of_form breaks s (stmt.Return c.in-Return.word m.of_rights) (Return c.in-Return.word (map right_of m.of_rights)) false m.made (return_stmt c.in-Return.word m.of_rights) (refl)

pub stmt_breaks-returns-in-Go : goal.stmt_breaks-returns-in-Go
stmt_breaks-returns-in-Go t c = λ s h.
    let m = c.in-Go.ensures s h in
    of_form breaks s (stmt.Go c.in-Go.word m.of_body) (Go c.in-Go.word (block_of m.of_body)) false m.made (go_stmt c.in-Go.word m.of_body) (refl)

pub stmt_breaks-returns-in-If : goal.stmt_breaks-returns-in-If
stmt_breaks-returns-in-If t c = λ s h.
    let m = c.in-If.ensures s h in
    of_form breaks s (stmt.If c.in-If.word m.of_condition m.of_body None) (If c.in-If.word (expr_of m.of_condition) (block_of m.of_body) no_branch) c.block_breaks.result m.made (if_stmt c.in-If.word m.of_condition m.of_body) (c.block_breaks.ensures m.of_body m.at_body.is ∙ sym (or_none (block_breaks (block_of m.of_body))))

pub stmt_breaks-returns-then-first : goal.stmt_breaks-returns-then-first
stmt_breaks-returns-then-first t c = λ s h.
    let m = c.in-IfElse.ensures s h in
    of_form breaks s (stmt.If c.in-IfElse.word m.of_condition m.of_body (Some m.of_other)) (If c.in-IfElse.word (expr_of m.of_condition) (block_of m.of_body) (branch (stmt_of m.of_other))) c.block_breaks-first.result m.made (else_stmt c.in-IfElse.word m.of_condition m.of_body m.of_other) (or_first c.block_breaks-first.result (block_breaks (block_of m.of_body)) (breaks (stmt_of m.of_other)) (c.block_breaks-first.ensures m.of_body m.at_body.is) c.if-first.true)

pub stmt_breaks-returns-else-first : goal.stmt_breaks-returns-else-first
stmt_breaks-returns-else-first t c = λ s h.
    let m = c.in-IfElse.ensures s h in
    of_form breaks s (stmt.If c.in-IfElse.word m.of_condition m.of_body (Some m.of_other)) (If c.in-IfElse.word (expr_of m.of_condition) (block_of m.of_body) (branch (stmt_of m.of_other))) c.stmt_breaks-second.result m.made (else_stmt c.in-IfElse.word m.of_condition m.of_body m.of_other) (or_second c.block_breaks-first.result (block_breaks (block_of m.of_body)) c.stmt_breaks-second.result (breaks (stmt_of m.of_other)) (c.block_breaks-first.ensures m.of_body m.at_body.is) c.if-first.false (c.stmt_breaks-second.ensures m.of_other m.at_other.is))

pub stmt_breaks-returns-in-Nested : goal.stmt_breaks-returns-in-Nested
stmt_breaks-returns-in-Nested t c = λ s h.
    let m = c.in-Nested.ensures s h in
    of_form breaks s (stmt.Block m.of_block) (Nested (block_of m.of_block)) c.block_breaks-in-Nested.result m.made (nested_stmt m.of_block) (c.block_breaks-in-Nested.ensures m.of_block m.at_block.is)

pub stmt_breaks-returns-in-Jump : goal.stmt_breaks-returns-in-Jump
stmt_breaks-returns-in-Jump t c = λ s h. sym (ap (λ (x : DeclaredStmt). breaks (stmt_of x)) (c.in-Jump.ensures s h) ∙ ap breaks (jump_stmt c.in-Jump.word))

pub stmts_break-loop-stmts-init : goal.stmts_break-loop-stmts-init
stmts_break-loop-stmts-init t c = record { below = omega arith; some = c.requires.some; rest = λ ss h. record { left = ss; there = h; same = refl } }

pub stmts_break-stmts_node-requires-clause-some : goal.stmts_break-stmts_node-requires-clause-some
stmts_break-stmts_node-requires-clause-some t c = c.loop-stmts.invariant.some

pub stmts_break-returns-in-NoStmts : goal.stmts_break-returns-in-NoStmts
stmts_break-returns-in-NoStmts t c = λ ss h.
    let r = c.loop-stmts.invariant.rest ss h in
    sym (r.same ∙ ap (λ (x : List DeclaredStmt). stmts_break (plain x)) (c.in-NoStmts.ensures r.left r.there))

pub stmts_break-stmt_breaks-requires : goal.stmts_break-stmt_breaks-requires
stmts_break-stmt_breaks-requires t c =
    let i = c.loop-stmts.invariant in
    let m = c.in-Stmt.ensures i.some.whole i.some.part in
    let l = m.at_stmt.before in
    let b = i.below in
    let d = c.decreases in
    (omega (arith, l, b, d), (c.requires.formed, stmt_there c.args.nodes.now c.loop-stmts.place c.in-Stmt.stmt m.of_stmt i.some.within m.at_stmt))

pub stmts_break-returns-then-stmt_breaks : goal.stmts_break-returns-then-stmt_breaks
stmts_break-returns-then-stmt_breaks t c = λ ss h.
    let r = c.loop-stmts.invariant.rest ss h in
    let m = c.in-Stmt.ensures r.left r.there in
    sym (r.same ∙ ap (λ (x : List DeclaredStmt). stmts_break (plain x)) m.made
    ∙ break_last m.of_stmts m.of_stmt (sym (c.stmt_breaks.ensures m.of_stmt m.at_stmt.is) ∙ c.if-stmt_breaks.true))

pub stmts_break-loop-stmts-smaller-in-Stmt : goal.stmts_break-loop-stmts-smaller-in-Stmt
stmts_break-loop-stmts-smaller-in-Stmt t c = let i = c.loop-stmts.invariant in let m = c.in-Stmt.ensures i.some.whole i.some.part in m.at_stmts.before

pub stmts_break-loop-stmts-preserved-in-Stmt : goal.stmts_break-loop-stmts-preserved-in-Stmt
stmts_break-loop-stmts-preserved-in-Stmt t c =
    let i = c.loop-stmts.invariant in
    let m = c.in-Stmt.ensures i.some.whole i.some.part in
    let l = m.at_stmts.before in
    let b = i.below in
    record {
      below = omega (arith, l, b);
      some = stmts_there c.args.nodes.now c.loop-stmts.place c.in-Stmt.stmts m.of_stmts i.some.within m.at_stmts;
      rest = λ ss h.
          let r = i.rest ss h in
          let n = c.in-Stmt.ensures r.left r.there in
          record { left = n.of_stmts; there = n.at_stmts.is; same = r.same ∙ ap (λ (x : List DeclaredStmt). stmts_break (plain x)) n.made ∙ break_before n.of_stmts n.of_stmt (sym (c.stmt_breaks.ensures n.of_stmt n.at_stmt.is) ∙ c.if-stmt_breaks.false) };
    }

pub stmts_break-loop-stmts-smaller-in-Empty : goal.stmts_break-loop-stmts-smaller-in-Empty
stmts_break-loop-stmts-smaller-in-Empty t c = let i = c.loop-stmts.invariant in let m = c.in-Empty.ensures i.some.whole i.some.part in m.at_stmts.before

pub stmts_break-loop-stmts-preserved-in-Empty : goal.stmts_break-loop-stmts-preserved-in-Empty
stmts_break-loop-stmts-preserved-in-Empty t c =
    let i = c.loop-stmts.invariant in
    let m = c.in-Empty.ensures i.some.whole i.some.part in
    let l = m.at_stmts.before in
    let b = i.below in
    record {
      below = omega (arith, l, b);
      some = stmts_there c.args.nodes.now c.loop-stmts.place c.in-Empty.stmts m.of_stmts i.some.within m.at_stmts;
      rest = λ ss h.
          let r = i.rest ss h in
          let n = c.in-Empty.ensures r.left r.there in
          record { left = n.of_stmts; there = n.at_stmts.is; same = r.same ∙ ap (λ (x : List DeclaredStmt). stmts_break (plain x)) n.made ∙ break_before n.of_stmts stmt.Empty no_break };
    }

pub stmts_break-loop-stmts-smaller : goal.stmts_break-loop-stmts-smaller
stmts_break-loop-stmts-smaller t c = let i = c.loop-stmts.invariant in let m = c.in-PastStmts.ensures i.some.whole i.some.part in m.at_stmts.before

pub stmts_break-loop-stmts-preserved : goal.stmts_break-loop-stmts-preserved
stmts_break-loop-stmts-preserved t c =
    let i = c.loop-stmts.invariant in
    let m = c.in-PastStmts.ensures i.some.whole i.some.part in
    let l = m.at_stmts.before in
    let b = i.below in
    record {
      below = omega (arith, l, b);
      some = stmts_there c.args.nodes.now c.loop-stmts.place c.in-PastStmts.stmts m.of_stmts i.some.within m.at_stmts;
      rest = λ ss h.
          let r = i.rest ss h in
          let n = c.in-PastStmts.ensures r.left r.there in
          record { left = n.of_stmts; there = n.at_stmts.is; same = r.same ∙ ap (λ (x : List DeclaredStmt). stmts_break (plain x)) n.made };
    }
