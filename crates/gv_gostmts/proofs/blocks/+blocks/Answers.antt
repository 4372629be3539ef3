use Rattle.std.proofs.Common.{◌≡◌, ℕ, List, [], ◌++◌, length, map, take, drop, get_or, ◌-◌, Option, Some, None, IfOk, refl, sym, ap, subst, ◌∙◌, append-nil, arith}
use Rattle.std.specs.Prelude.{option_map}
use Rattle.gv_gosyntax.specs.declared.tree.Block.{Block as DeclaredBlock}
use Rattle.gv_gosyntax.specs.declared.tree.Stmt.TheVariants as stmt
use Rattle.gv_operands.specs.declared.types.GoType.TheVariants.{Boolean}
use Rattle.gv_operands.specs.declared.part.Want.TheVariants.{Exactly}
use Rattle.gv_gotypes.specs.Types.{Finding}
use Rattle.gv_gotypes.specs.Trees.{Simple, Var, If, Nested, Jump, For, Return, Go, no_branch, branch, simple_of, expr_of, right_of, header_of, block_of}
use Rattle.gv_gotypes.specs.Scopes.{Env, opened}
use Rattle.gv_gotypes.specs.Calls.{placed}
use Rattle.gv_gotypes.specs.Statements.{after, part_after, part_findings, condition_findings, header_env, header_findings, stmt_findings, block_findings}
use Rattle.gv_gotyped.specs.declared.fault.Fault.{Fault}
use Rattle.gv_gotyped.specs.First.{first_of}
use Rattle.gv_gotyped.proofs.Firsts.{first_of_two, first_of_lists}
use Rattle.gv_gowalk.proofs.Steps.{expr_there}
use Rattle.gv_gocalls.proofs.KeyedLemmas.{type_there}
use Rattle.gv_goends.specs.Trees.{stmt_of}
use Rattle.gv_goends.proofs.Trees.{simple_stmt, var_stmt, if_stmt, else_stmt, nested_stmt, jump_stmt, for_stmt, return_stmt, go_stmt, block_is}
use Rattle.gv_goends.proofs.Steps.{stmt_there, stmts_there, bound_there, block_there, block_parts}
use Rattle.gv_gosimple.proofs.Splits.{head, none_left, right_there}
use Rattle.gv_gostmts.specs.Lists.{AreStmts, plain_header}
use Rattle.gv_gostmts.proofs.BlockLemmas.{simple_there, part_there, rights_there, told_as, told_all, around, closed_env, closed_outer}
use Rattle.gv_gostmts.proofs.Steps.{split, nothing, walked_more, walked_all}
use Rattle.gv_gostmts.proofs.blocks.+blocks.Goals as goal

pub stmt_fault-simple_fault-requires-clause-some : goal.stmt_fault-simple_fault-requires-clause-some
stmt_fault-simple_fault-requires-clause-some g t c =
    let m = c.in-Simple.ensures c.requires.some.whole c.requires.some.part in
    simple_there c.args.nodes.now c.args.at c.in-Simple.simple m.of_simple c.requires.some.within m.at_simple

pub stmt_fault-var_fault-requires-clause-kind : goal.stmt_fault-var_fault-requires-clause-kind
stmt_fault-var_fault-requires-clause-kind g t c =
    let m = c.in-Var.ensures c.requires.some.whole c.requires.some.part in
    type_there c.args.nodes.now c.args.at c.in-Var.kind m.of_kind c.requires.some.within m.at_kind

pub stmt_fault-value_fault-requires-clause-kind : goal.stmt_fault-value_fault-requires-clause-kind
stmt_fault-value_fault-requires-clause-kind g t c =
    let m = c.in-VarValue.ensures c.requires.some.whole c.requires.some.part in
    type_there c.args.nodes.now c.args.at c.in-VarValue.kind m.of_kind c.requires.some.within m.at_kind

pub stmt_fault-value_fault-requires-clause-value : goal.stmt_fault-value_fault-requires-clause-value
stmt_fault-value_fault-requires-clause-value g t c =
    let m = c.in-VarValue.ensures c.requires.some.whole c.requires.some.part in
    right_there c.args.nodes.now c.args.at c.in-VarValue.value m.of_value c.requires.some.within m.at_value

pub stmt_fault-placed_at-own-requires-clause-some : goal.stmt_fault-placed_at-own-requires-clause-some
stmt_fault-placed_at-own-requires-clause-some g t c =
    let m = c.in-If.ensures c.requires.some.whole c.requires.some.part in
    expr_there c.args.nodes.now c.args.at c.in-If.condition m.of_condition c.requires.some.within m.at_condition

pub stmt_fault-placed_at-own-requires-in-IfElse-clause-some : goal.stmt_fault-placed_at-own-requires-in-IfElse-clause-some
stmt_fault-placed_at-own-requires-in-IfElse-clause-some g t c =
    let m = c.in-IfElse.ensures c.requires.some.whole c.requires.some.part in
    expr_there c.args.nodes.now c.args.at c.in-IfElse.condition m.of_condition c.requires.some.within m.at_condition

pub stmt_fault-return_fault-requires-clause-some : goal.stmt_fault-return_fault-requires-clause-some
stmt_fault-return_fault-requires-clause-some g t c =
    let m = c.in-Return.ensures c.requires.some.whole c.requires.some.part in
    rights_there c.args.nodes.now c.args.at c.in-Return.rights m.of_rights c.requires.some.within m.at_rights

pub stmt_fault-nested_fault-requires : goal.stmt_fault-nested_fault-requires
stmt_fault-nested_fault-requires g t c = λ κs outlives.
    let m = c.in-If.ensures c.requires.some.whole c.requires.some.part in
    let l = m.at_body.before in
    let d = c.decreases in
    (omega (arith, l, d), (outlives, (c.requires.formed, block_there c.args.nodes.now c.args.at c.in-If.body m.of_body c.requires.some.within m.at_body)))

pub stmt_fault-nested_fault-requires-in-IfElse : goal.stmt_fault-nested_fault-requires-in-IfElse
stmt_fault-nested_fault-requires-in-IfElse g t c = λ κs outlives.
    let m = c.in-IfElse.ensures c.requires.some.whole c.requires.some.part in
    let l = m.at_body.before in
    let d = c.decreases in
    (omega (arith, l, d), (outlives, (c.requires.formed, block_there c.args.nodes.now c.args.at c.in-IfElse.body m.of_body c.requires.some.within m.at_body)))

pub stmt_fault-stmt_fault-requires : goal.stmt_fault-stmt_fault-requires
stmt_fault-stmt_fault-requires g t c = λ κs outlives.
    let m = c.in-IfElse.ensures c.requires.some.whole c.requires.some.part in
    let l = m.at_other.before in
    let d = c.decreases in
    (omega (arith, l, d), (outlives, (c.requires.formed, stmt_there c.args.nodes.now c.args.at c.in-IfElse.other m.of_other c.requires.some.within m.at_other)))

pub stmt_fault-nested_fault-requires-in-Nested : goal.stmt_fault-nested_fault-requires-in-Nested
stmt_fault-nested_fault-requires-in-Nested g t c = λ κs outlives.
    let m = c.in-Nested.ensures c.requires.some.whole c.requires.some.part in
    let l = m.at_block.before in
    let d = c.decreases in
    (omega (arith, l, d), (outlives, (c.requires.formed, block_there c.args.nodes.now c.args.at c.in-Nested.block m.of_block c.requires.some.within m.at_block)))

pub stmt_fault-loop_fault-requires : goal.stmt_fault-loop_fault-requires
stmt_fault-loop_fault-requires g t c = λ κs outlives.
    let m = c.in-Forever.ensures c.requires.some.whole c.requires.some.part in
    let l = m.at_body.before in
    let d = c.decreases in
    (omega (arith, l, d), (outlives, (c.requires.formed, block_there c.args.nodes.now c.args.at c.in-Forever.body m.of_body c.requires.some.within m.at_body)))

pub stmt_fault-while_fault-requires : goal.stmt_fault-while_fault-requires
stmt_fault-while_fault-requires g t c = λ κs outlives.
    let m = c.in-While.ensures c.requires.some.whole c.requires.some.part in
    let l = m.at_body.before in
    let d = c.decreases in
    (omega (arith, l, d), (outlives, (c.requires.formed, (expr_there c.args.nodes.now c.args.at c.in-While.condition m.of_condition c.requires.some.within m.at_condition, block_there c.args.nodes.now c.args.at c.in-While.body m.of_body c.requires.some.within m.at_body))))

pub stmt_fault-for_fault-requires : goal.stmt_fault-for_fault-requires
stmt_fault-for_fault-requires g t c = λ κs outlives.
    let m = c.in-For.ensures c.requires.some.whole c.requires.some.part in
    let l = m.at_body.before in
    let d = c.decreases in
    (omega (arith, l, d), (outlives, (c.requires.formed, (part_there c.args.nodes.now c.args.at c.in-For.first m.of_first c.requires.some.within m.at_first, (bound_there c.args.nodes.now c.args.at c.in-For.condition m.of_condition c.requires.some.within m.at_condition, (part_there c.args.nodes.now c.args.at c.in-For.post m.of_post c.requires.some.within m.at_post, block_there c.args.nodes.now c.args.at c.in-For.body m.of_body c.requires.some.within m.at_body))))))

pub stmt_fault-literal_fault-requires : goal.stmt_fault-literal_fault-requires
stmt_fault-literal_fault-requires g t c = λ κs outlives.
    let m = c.in-Go.ensures c.requires.some.whole c.requires.some.part in
    let l = m.at_body.before in
    let d = c.decreases in
    (omega (arith, l, d), (outlives, (c.requires.formed, block_there c.args.nodes.now c.args.at c.in-Go.body m.of_body c.requires.some.within m.at_body)))

pub stmt_fault-returns-in-Simple-clause-told : goal.stmt_fault-returns-in-Simple-clause-told
stmt_fault-returns-in-Simple-clause-told g t c = λ s h.
    let env = g.N.Names.env c.args.names.now in
    let m = c.in-Simple.ensures s h in
    told_all env s (stmt.Simple m.of_simple) (Simple (simple_of m.of_simple)) c.simple_fault.result _ m.made (simple_stmt m.of_simple) refl
    (c.simple_fault.ensures m.of_simple m.at_simple.is)

pub stmt_fault-returns-in-Var-clause-told : goal.stmt_fault-returns-in-Var-clause-told
stmt_fault-returns-in-Var-clause-told g t c = λ s h.
    let env = g.N.Names.env c.args.names.now in
    let m = c.in-Var.ensures s h in
    told_as env s (stmt.Var c.in-Var.word c.in-Var.name m.of_kind None) (Var c.in-Var.word c.in-Var.name m.of_kind None) c.var_fault.result m.made
    (var_stmt c.in-Var.word c.in-Var.name m.of_kind None) (c.var_fault.ensures m.of_kind m.at_kind.is)

pub stmt_fault-returns-in-VarValue-clause-told : goal.stmt_fault-returns-in-VarValue-clause-told
stmt_fault-returns-in-VarValue-clause-told g t c = λ s h.
    let env = g.N.Names.env c.args.names.now in
    let m = c.in-VarValue.ensures s h in
    told_all env s (stmt.Var c.in-VarValue.word c.in-VarValue.name m.of_kind (Some m.of_value)) (Var c.in-VarValue.word c.in-VarValue.name m.of_kind (Some (right_of m.of_value))) c.value_fault.result _ m.made (var_stmt c.in-VarValue.word c.in-VarValue.name m.of_kind (Some m.of_value)) refl
    (c.value_fault.ensures m.of_kind m.of_value m.at_kind.is m.at_value.is)

pub stmt_fault-returns-in_ok-inner-in-If-clause-told : goal.stmt_fault-returns-in_ok-inner-in-If-clause-told
stmt_fault-returns-in_ok-inner-in-If-clause-told g t c = λ s h.
    let env = g.N.Names.env c.args.names.now in
    let m = c.in-If.ensures s h in
    let body = block_findings (opened env) (block_of m.of_body) in
    told_as env s (stmt.If c.in-If.word m.of_condition m.of_body None) (If c.in-If.word (expr_of m.of_condition) (block_of m.of_body) no_branch) c.earliest.result m.made (if_stmt c.in-If.word m.of_condition m.of_body)
    (c.earliest.ensures ∙ first_of_two (placed env (Exactly Boolean) (expr_of m.of_condition)) (body ++ []) c.placed_at-own.result c.in_ok-inner-in-If.inner
    (c.placed_at-own.ensures m.of_condition m.at_condition.is)
    (c.in_ok-inner-in-If.ensures.told m.of_body m.at_body.is ∙ sym (ap first_of (append-nil body))))

pub stmt_fault-returns-in_ok-otherwise-in-IfElse-clause-told : goal.stmt_fault-returns-in_ok-otherwise-in-IfElse-clause-told
stmt_fault-returns-in_ok-otherwise-in-IfElse-clause-told g t c = λ s h.
    let env = g.N.Names.env c.args.names.now in
    let m = c.in-IfElse.ensures s h in
    told_as env s (stmt.If c.in-IfElse.word m.of_condition m.of_body (Some m.of_other)) (If c.in-IfElse.word (expr_of m.of_condition) (block_of m.of_body) (branch (stmt_of m.of_other))) c.earliest-in-IfElse.result m.made (else_stmt c.in-IfElse.word m.of_condition m.of_body m.of_other)
    (c.earliest-in-IfElse.ensures ∙ first_of_lists (placed env (Exactly Boolean) (expr_of m.of_condition)) (block_findings (opened env) (block_of m.of_body)) (stmt_findings env (stmt_of m.of_other))
    c.placed_at-own-in-IfElse.result c.in_ok-inner-in-IfElse.inner c.in_ok-otherwise-in-IfElse.otherwise c.earliest-more.result
    (c.placed_at-own-in-IfElse.ensures m.of_condition m.at_condition.is)
    (c.in_ok-inner-in-IfElse.ensures.told m.of_body m.at_body.is)
    (c.in_ok-otherwise-in-IfElse.ensures.told m.of_other m.at_other.is ∙ ap (λ (e : Env). first_of (stmt_findings e (stmt_of m.of_other))) c.in_ok-inner-in-IfElse.ensures.env)
    c.earliest-more.ensures)

pub stmt_fault-returns-in-Nested-clause-told : goal.stmt_fault-returns-in-Nested-clause-told
stmt_fault-returns-in-Nested-clause-told g t c = λ s h.
    let env = g.N.Names.env c.args.names.now in
    let m = c.in-Nested.ensures s h in
    told_all env s (stmt.Block m.of_block) (Nested (block_of m.of_block)) c.nested_fault-in-Nested.result _ m.made (nested_stmt m.of_block) refl
    (c.nested_fault-in-Nested.ensures.told m.of_block m.at_block.is)

pub stmt_fault-returns-in-Jump-clause-told : goal.stmt_fault-returns-in-Jump-clause-told
stmt_fault-returns-in-Jump-clause-told g t c = λ s h.
    let env = g.N.Names.env c.args.names.now in
    told_as env s (stmt.Jump c.in-Jump.word) (Jump c.in-Jump.word) None (c.in-Jump.ensures s h) (jump_stmt c.in-Jump.word) refl

pub stmt_fault-returns-in-Forever-clause-told : goal.stmt_fault-returns-in-Forever-clause-told
stmt_fault-returns-in-Forever-clause-told g t c = λ s h.
    let env = g.N.Names.env c.args.names.now in
    let m = c.in-Forever.ensures s h in
    told_all env s (stmt.For c.in-Forever.word (record { first = None; condition = None; post = None }) m.of_body) (For c.in-Forever.word (header_of (record { first = None; condition = None; post = None })) (block_of m.of_body)) c.loop_fault.result _ m.made (for_stmt c.in-Forever.word (record { first = None; condition = None; post = None }) m.of_body) refl
    (c.loop_fault.ensures.told m.of_body m.at_body.is)

pub stmt_fault-returns-in-While-clause-told : goal.stmt_fault-returns-in-While-clause-told
stmt_fault-returns-in-While-clause-told g t c = λ s h.
    let env = g.N.Names.env c.args.names.now in
    let m = c.in-While.ensures s h in
    told_all env s (stmt.For c.in-While.word (record { first = None; condition = Some m.of_condition; post = None }) m.of_body) (For c.in-While.word (header_of (record { first = None; condition = Some m.of_condition; post = None })) (block_of m.of_body)) c.while_fault.result _ m.made (for_stmt c.in-While.word (record { first = None; condition = Some m.of_condition; post = None }) m.of_body) (ap (λ (fs : List Finding). fs ++ block_findings (opened (opened env)) (block_of m.of_body)) (sym (append-nil (condition_findings (opened env) (Some (expr_of m.of_condition))))))
    (c.while_fault.ensures.told m.of_condition m.of_body m.at_condition.is m.at_body.is)

pub stmt_fault-returns-in-For-clause-told : goal.stmt_fault-returns-in-For-clause-told
stmt_fault-returns-in-For-clause-told g t c = λ s h.
    let env = g.N.Names.env c.args.names.now in
    let m = c.in-For.ensures s h in
    told_all env s (stmt.For c.in-For.word (record { first = m.of_first; condition = m.of_condition; post = m.of_post }) m.of_body) (For c.in-For.word (header_of (record { first = m.of_first; condition = m.of_condition; post = m.of_post })) (block_of m.of_body)) c.for_fault.result _ m.made (for_stmt c.in-For.word (record { first = m.of_first; condition = m.of_condition; post = m.of_post }) m.of_body) refl
    (c.for_fault.ensures.told m.of_first m.of_post m.of_condition m.of_body m.at_first.is m.at_condition.is m.at_post.is m.at_body.is)

pub stmt_fault-returns-in-Return-clause-told : goal.stmt_fault-returns-in-Return-clause-told
stmt_fault-returns-in-Return-clause-told g t c = λ s h.
    let env = g.N.Names.env c.args.names.now in
    let m = c.in-Return.ensures s h in
    told_all env s (stmt.Return c.in-Return.word m.of_rights) (Return c.in-Return.word (map right_of m.of_rights)) c.return_fault.result _ m.made (return_stmt c.in-Return.word m.of_rights) refl
    (c.return_fault.ensures m.of_rights m.at_rights.is)

pub stmt_fault-returns-in-Go-clause-told : goal.stmt_fault-returns-in-Go-clause-told
stmt_fault-returns-in-Go-clause-told g t c = λ s h.
    let env = g.N.Names.env c.args.names.now in
    let m = c.in-Go.ensures s h in
    told_all env s (stmt.Go c.in-Go.word m.of_body) (Go c.in-Go.word (block_of m.of_body)) c.literal_fault.result _ m.made (go_stmt c.in-Go.word m.of_body) refl
    (c.literal_fault.ensures.told m.of_body m.at_body.is)

pub stmt_fault-returns-in_ok-otherwise-in-IfElse-clause-env : goal.stmt_fault-returns-in_ok-otherwise-in-IfElse-clause-env
stmt_fault-returns-in_ok-otherwise-in-IfElse-clause-env g t c = c.in_ok-otherwise-in-IfElse.ensures.env ∙ c.in_ok-inner-in-IfElse.ensures.env

pub stmt_fault-returns-in_ok-otherwise-in-IfElse-clause-outer : goal.stmt_fault-returns-in_ok-otherwise-in-IfElse-clause-outer
stmt_fault-returns-in_ok-otherwise-in-IfElse-clause-outer g t c = c.in_ok-otherwise-in-IfElse.ensures.outer ∙ c.in_ok-inner-in-IfElse.ensures.outer

pub nested_fault-close-requires : goal.nested_fault-close-requires
nested_fault-close-requires g t c =
    around (g.N.Scopes.outer c.block_fault.new.names) (g.N.Scopes.outer c.args.names.now) (g.N.Names.env c.args.names.now) (c.in_ok-first.ensures.outer ∙ c.in_ok-open.ensures.outer)

pub nested_fault-returns-clause-env : goal.nested_fault-returns-clause-env
nested_fault-returns-clause-env g t c =
    closed_env (g.N.Scopes.outer c.block_fault.new.names) (g.N.Scopes.outer c.args.names.now) (g.N.Scopes.outer c.close.new.self) (g.N.Names.env c.args.names.now) (g.N.Names.env c.close.new.self)
    (c.in_ok-first.ensures.outer ∙ c.in_ok-open.ensures.outer) c.close.ensures

pub nested_fault-returns-clause-outer : goal.nested_fault-returns-clause-outer
nested_fault-returns-clause-outer g t c =
    closed_outer (g.N.Scopes.outer c.block_fault.new.names) (g.N.Scopes.outer c.args.names.now) (g.N.Scopes.outer c.close.new.self) (g.N.Names.env c.args.names.now) (g.N.Names.env c.close.new.self)
    (c.in_ok-first.ensures.outer ∙ c.in_ok-open.ensures.outer) c.close.ensures

pub literal_fault-close-requires : goal.literal_fault-close-requires
literal_fault-close-requires g t c =
    around (g.N.Scopes.outer c.block_fault.new.names) (g.N.Scopes.outer c.args.names.now) (g.N.Names.env c.args.names.now) (c.in_ok-first.ensures.outer ∙ c.in_ok-open_literal.ensures.outer)

pub literal_fault-returns-clause-env : goal.literal_fault-returns-clause-env
literal_fault-returns-clause-env g t c =
    closed_env (g.N.Scopes.outer c.block_fault.new.names) (g.N.Scopes.outer c.args.names.now) (g.N.Scopes.outer c.close.new.self) (g.N.Names.env c.args.names.now) (g.N.Names.env c.close.new.self)
    (c.in_ok-first.ensures.outer ∙ c.in_ok-open_literal.ensures.outer) c.close.ensures

pub literal_fault-returns-clause-outer : goal.literal_fault-returns-clause-outer
literal_fault-returns-clause-outer g t c =
    closed_outer (g.N.Scopes.outer c.block_fault.new.names) (g.N.Scopes.outer c.args.names.now) (g.N.Scopes.outer c.close.new.self) (g.N.Names.env c.args.names.now) (g.N.Names.env c.close.new.self)
    (c.in_ok-first.ensures.outer ∙ c.in_ok-open_literal.ensures.outer) c.close.ensures

pub loop_fault-close-requires : goal.loop_fault-close-requires
loop_fault-close-requires g t c =
    around (g.N.Scopes.outer c.nested_fault.new.names) (g.N.Scopes.outer c.args.names.now) (g.N.Names.env c.args.names.now) (c.in_ok-first.ensures.outer ∙ c.in_ok-open.ensures.outer)

pub loop_fault-returns-clause-env : goal.loop_fault-returns-clause-env
loop_fault-returns-clause-env g t c =
    closed_env (g.N.Scopes.outer c.nested_fault.new.names) (g.N.Scopes.outer c.args.names.now) (g.N.Scopes.outer c.close.new.self) (g.N.Names.env c.args.names.now) (g.N.Names.env c.close.new.self)
    (c.in_ok-first.ensures.outer ∙ c.in_ok-open.ensures.outer) c.close.ensures

pub loop_fault-returns-clause-outer : goal.loop_fault-returns-clause-outer
loop_fault-returns-clause-outer g t c =
    closed_outer (g.N.Scopes.outer c.nested_fault.new.names) (g.N.Scopes.outer c.args.names.now) (g.N.Scopes.outer c.close.new.self) (g.N.Names.env c.args.names.now) (g.N.Names.env c.close.new.self)
    (c.in_ok-first.ensures.outer ∙ c.in_ok-open.ensures.outer) c.close.ensures

pub while_fault-close-requires : goal.while_fault-close-requires
while_fault-close-requires g t c =
    around (g.N.Scopes.outer c.nested_fault.new.names) (g.N.Scopes.outer c.args.names.now) (g.N.Names.env c.args.names.now) (c.in_ok-inner.ensures.outer ∙ c.in_ok-open.ensures.outer)

pub while_fault-returns-clause-env : goal.while_fault-returns-clause-env
while_fault-returns-clause-env g t c =
    closed_env (g.N.Scopes.outer c.nested_fault.new.names) (g.N.Scopes.outer c.args.names.now) (g.N.Scopes.outer c.close.new.self) (g.N.Names.env c.args.names.now) (g.N.Names.env c.close.new.self)
    (c.in_ok-inner.ensures.outer ∙ c.in_ok-open.ensures.outer) c.close.ensures

pub while_fault-returns-clause-outer : goal.while_fault-returns-clause-outer
while_fault-returns-clause-outer g t c =
    closed_outer (g.N.Scopes.outer c.nested_fault.new.names) (g.N.Scopes.outer c.args.names.now) (g.N.Scopes.outer c.close.new.self) (g.N.Names.env c.args.names.now) (g.N.Names.env c.close.new.self)
    (c.in_ok-inner.ensures.outer ∙ c.in_ok-open.ensures.outer) c.close.ensures

pub for_fault-close-requires : goal.for_fault-close-requires
for_fault-close-requires g t c =
    around (g.N.Scopes.outer c.nested_fault.new.names) (g.N.Scopes.outer c.args.names.now) (g.N.Names.env c.args.names.now) (c.in_ok-inner.ensures.outer ∙ c.in_ok-own.ensures.outer ∙ c.in_ok-open.ensures.outer)

pub for_fault-returns-clause-env : goal.for_fault-returns-clause-env
for_fault-returns-clause-env g t c =
    closed_env (g.N.Scopes.outer c.nested_fault.new.names) (g.N.Scopes.outer c.args.names.now) (g.N.Scopes.outer c.close.new.self) (g.N.Names.env c.args.names.now) (g.N.Names.env c.close.new.self)
    (c.in_ok-inner.ensures.outer ∙ c.in_ok-own.ensures.outer ∙ c.in_ok-open.ensures.outer) c.close.ensures

pub for_fault-returns-clause-outer : goal.for_fault-returns-clause-outer
for_fault-returns-clause-outer g t c =
    closed_outer (g.N.Scopes.outer c.nested_fault.new.names) (g.N.Scopes.outer c.args.names.now) (g.N.Scopes.outer c.close.new.self) (g.N.Names.env c.args.names.now) (g.N.Names.env c.close.new.self)
    (c.in_ok-inner.ensures.outer ∙ c.in_ok-own.ensures.outer ∙ c.in_ok-open.ensures.outer) c.close.ensures

pub nested_fault-block_fault-requires : goal.nested_fault-block_fault-requires
nested_fault-block_fault-requires g t c = λ κs outlives. let d = c.decreases in (omega (arith, d), (outlives, (c.requires.formed, c.requires.some)))

pub literal_fault-block_fault-requires : goal.literal_fault-block_fault-requires
literal_fault-block_fault-requires g t c = λ κs outlives. let d = c.decreases in (omega (arith, d), (outlives, (c.requires.formed, c.requires.some)))

pub loop_fault-nested_fault-requires : goal.loop_fault-nested_fault-requires
loop_fault-nested_fault-requires g t c = λ κs outlives. let d = c.decreases in (omega (arith, d), (outlives, (c.requires.formed, c.requires.some)))

pub while_fault-nested_fault-requires : goal.while_fault-nested_fault-requires
while_fault-nested_fault-requires g t c = λ κs outlives. let d = c.decreases in (omega (arith, d), (outlives, (c.requires.formed, c.requires.body)))

pub for_fault-nested_fault-requires : goal.for_fault-nested_fault-requires
for_fault-nested_fault-requires g t c = λ κs outlives. let d = c.decreases in (omega (arith, d), (outlives, (c.requires.formed, c.requires.body)))

pub nested_fault-returns-clause-told : goal.nested_fault-returns-clause-told
nested_fault-returns-clause-told g t c = λ b h.
    c.in_ok-first.ensures.told b h ∙ ap (λ (e : Env). first_of (block_findings e (block_of b))) c.in_ok-open.ensures.env

pub literal_fault-returns-clause-told : goal.literal_fault-returns-clause-told
literal_fault-returns-clause-told g t c = λ b h.
    c.in_ok-first.ensures.told b h ∙ ap (λ (e : Env). first_of (block_findings e (block_of b))) c.in_ok-open_literal.ensures.env

pub loop_fault-returns-clause-told : goal.loop_fault-returns-clause-told
loop_fault-returns-clause-told g t c = λ b h.
    c.in_ok-first.ensures.told b h ∙ ap (λ (e : Env). first_of (block_findings (opened e) (block_of b))) c.in_ok-open.ensures.env

pub while_fault-returns-clause-told : goal.while_fault-returns-clause-told
while_fault-returns-clause-told g t c = λ e b h i.
    let env = opened (g.N.Names.env c.args.names.now) in
    c.earliest.ensures
    ∙ first_of_two (placed env (Exactly Boolean) (expr_of e)) (block_findings (opened env) (block_of b)) c.placed_at-own.result c.in_ok-inner.inner
    (c.placed_at-own.ensures e h ∙ ap (λ (x : Env). first_of (placed x (Exactly Boolean) (expr_of e))) c.in_ok-open.ensures.env)
    (c.in_ok-inner.ensures.told b i ∙ ap (λ (x : Env). first_of (block_findings (opened x) (block_of b))) c.in_ok-open.ensures.env)

pub for_fault-returns-clause-told : goal.for_fault-returns-clause-told
for_fault-returns-clause-told g t c = λ a p b d h i j k.
    let old = g.N.Names.env c.args.names.now in
    let head = plain_header a b p in
    c.earliest.ensures
    ∙ first_of_two (header_findings old head) (block_findings (opened (header_env old head)) (block_of d)) c.in_ok-own.own c.in_ok-inner.inner
    (c.in_ok-own.ensures.told a p b h i j
    ∙ ap (λ (x : Env). first_of (part_findings x (option_map simple_of a)
    ++ (condition_findings (part_after x (option_map simple_of a)) (option_map expr_of b) ++ part_findings (part_after x (option_map simple_of a)) (option_map simple_of p)))) c.in_ok-open.ensures.env)
    (c.in_ok-inner.ensures.told d k
    ∙ ap (λ (x : Env). first_of (block_findings (opened x) (block_of d))) (c.in_ok-own.ensures.env a h ∙ ap (λ (x : Env). part_after x (option_map simple_of a)) c.in_ok-open.ensures.env))

-- ---- blocks

pub block_fault-stmts_fault-requires : goal.block_fault-stmts_fault-requires
block_fault-stmts_fault-requires g t c = λ κs outlives.
    let place = c.statements_in-place.result in
    let m = block_parts c.args.nodes.now c.args.at place c.block_node-node.result c.requires.some.whole c.statements_in-place.ensures
    (c.block_node-node.ensures c.requires.some.whole c.requires.some.part) in
    let l = m.there.before in
    let d = c.decreases in
    (omega (arith, l, d), (outlives, (c.requires.formed, stmts_there c.args.nodes.now c.args.at place m.statements c.requires.some.within m.there)))

pub block_fault-returns-clause-told : goal.block_fault-returns-clause-told
block_fault-returns-clause-told g t c = λ b h.
    let env = g.N.Names.env c.args.names.now in
    let m = block_parts c.args.nodes.now c.args.at c.statements_in-place.result c.block_node-node.result b c.statements_in-place.ensures (c.block_node-node.ensures b h) in
    subst (λ (fs : List Finding). IfOk c.stmts_fault.result (λ (f : Option Fault). f ≡ first_of fs))
    (sym (ap (λ (x : DeclaredBlock). block_findings env (block_of x)) m.made ∙ ap (block_findings env) (block_is m.start m.end m.statements)))
    (c.stmts_fault.ensures.told m.statements m.there.is)

pub stmts_fault-loop-left-init : goal.stmts_fault-loop-left-init
stmts_fault-loop-left-init g t c = record {
  outer = refl;
  rest = λ ss h.
      let k = c.in_ok-places.ensures ss h in
      record {
        left = k.of_places;
        are = subst (λ (ps : List ℕ). AreStmts c.args.nodes.now c.args.at ps k.of_places) (sym c.as_slice-left.ensures.value) k.are;
        told = ap first_of (sym (k.same (g.N.Names.env c.args.names.now)));
      };
}

pub stmts_fault-stmt_fault-requires : goal.stmts_fault-stmt_fault-requires
stmts_fault-stmt_fault-requires g t c = λ κs outlives.
    let left = c.loop-left.left.now in
    let w = c.loop-left.invariant.rest c.requires.some.whole c.requires.some.part in
    let f = split c.args.nodes.now c.args.at left (get_or left 0 0) (take (length left - 1) (drop 1 left)) w.left (head left c.in-len1-up.len_at_least) w.are in
    let l = f.there.before in
    let d = c.decreases in
    (omega (arith, l, d), (outlives, (c.requires.formed, stmt_there c.args.nodes.now c.args.at (get_or left 0 0) f.of_first c.requires.some.within f.there)))

pub stmts_fault-declare_stmt-requires-clause-some : goal.stmts_fault-declare_stmt-requires-clause-some
stmts_fault-declare_stmt-requires-clause-some g t c =
    let left = c.loop-left.left.now in
    let w = c.loop-left.invariant.rest c.requires.some.whole c.requires.some.part in
    let f = split c.args.nodes.now c.args.at left (get_or left 0 0) (take (length left - 1) (drop 1 left)) w.left (head left c.in-len1-up.len_at_least) w.are in
    stmt_there c.args.nodes.now c.args.at (get_or left 0 0) f.of_first c.requires.some.within f.there

pub stmts_fault-loop-left-preserved : goal.stmts_fault-loop-left-preserved
stmts_fault-loop-left-preserved g t c =
    let left = c.loop-left.left.now in
    record {
      outer = c.in_ok-declare_stmt.ensures.outer ∙ c.in_ok-own.ensures.outer ∙ c.loop-left.invariant.outer;
      rest = λ ss h.
          let w = c.loop-left.invariant.rest ss h in
          let f = split c.args.nodes.now c.args.at left (get_or left 0 0) (take (length left - 1) (drop 1 left)) w.left (head left c.in-len1-up.len_at_least) w.are in
          walked_more (g.N.Names.env c.args.names.now) (g.N.Names.env c.loop-left.names) (g.N.Names.env c.declare_stmt.new.names) c.args.nodes.now c.args.at left
          (take (length left - 1) (drop 1 left)) (get_or left 0 0) c.loop-left.first c.in_ok-own.own c.earliest-first.result ss w f
          (c.in_ok-own.ensures.told f.of_first f.there.is)
          (c.in_ok-declare_stmt.ensures.env f.of_first f.there.is ∙ ap (λ (e : Env). after e (stmt_of f.of_first)) c.in_ok-own.ensures.env)
          c.earliest-first.ensures;
    }

pub stmts_fault-returns-clause-told : goal.stmts_fault-returns-clause-told
stmts_fault-returns-clause-told g t c = λ ss h.
    let left = c.loop-left.left.now in
    let w = c.loop-left.invariant.rest ss h in
    walked_all (g.N.Names.env c.args.names.now) (g.N.Names.env c.loop-left.names) c.args.nodes.now c.args.at left c.loop-left.first ss w
    (nothing c.args.nodes.now c.args.at left w.left (none_left left c.in_default.len_below) w.are)

pub stmts_fault-returns-clause-outer : goal.stmts_fault-returns-clause-outer
stmts_fault-returns-clause-outer g t c = c.loop-left.invariant.outer
