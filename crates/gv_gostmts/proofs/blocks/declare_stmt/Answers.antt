use Rattle.std.proofs.Common.{Option, Some, None, refl, ap, ◌∙◌}
use Rattle.gv_gosyntax.specs.declared.tree.Stmt.TheVariants as stmt
use Rattle.gv_gotypes.specs.Trees.{Simple, Var, If, Nested, Jump, For, Return, Go, no_branch, branch, simple_of, expr_of, right_of, header_of, block_of}
use Rattle.std.specs.Prelude.{map}
use Rattle.gv_gotypes.specs.Scopes.{with_variable}
use Rattle.gv_goends.specs.Trees.{stmt_of}
use Rattle.gv_goends.proofs.Trees.{simple_stmt, var_stmt, if_stmt, else_stmt, nested_stmt, jump_stmt, for_stmt, return_stmt, go_stmt}
use Rattle.gv_gocalls.proofs.KeyedLemmas.{type_there}
use Rattle.gv_operands.specs.declared.types.GoType.{GoType}
use Rattle.gv_gostmts.proofs.BlockLemmas.{simple_there, seen_as}
use Rattle.gv_gostmts.proofs.blocks.declare_stmt.Goals as goal

pub declare_simple-requires-clause-some : goal.declare_simple-requires-clause-some
declare_simple-requires-clause-some g c =
    let m = c.in-Simple.ensures c.requires.some.whole c.requires.some.part in
    simple_there c.args.nodes.now c.args.at c.in-Simple.simple m.of_simple c.requires.some.within m.at_simple

pub returns-in_ok-declare_simple-in-Simple-clause-env : goal.returns-in_ok-declare_simple-in-Simple-clause-env
returns-in_ok-declare_simple-in-Simple-clause-env g c = λ s h.
    let m = c.in-Simple.ensures s h in
    seen_as (g.N.Names.env c.args.names.now) (g.N.Names.env c.declare_simple.new.names) s (stmt.Simple m.of_simple) (Simple (simple_of m.of_simple)) m.made (simple_stmt m.of_simple)
    (c.in_ok-declare_simple-in-Simple.ensures.env m.of_simple m.at_simple.is)

pub kind_at-own-requires-clause-some : goal.kind_at-own-requires-clause-some
kind_at-own-requires-clause-some g c =
    let m = c.in-Var.ensures c.requires.some.whole c.requires.some.part in
    type_there c.args.nodes.now c.args.at c.in-Var.kind m.of_kind c.requires.some.within m.at_kind

pub returns-in_ok-declare-in-Var-clause-env : goal.returns-in_ok-declare-in-Var-clause-env
returns-in_ok-declare-in-Var-clause-env g c = λ s h.
    let env = g.N.Names.env c.args.names.now in
    let m = c.in-Var.ensures s h in
    seen_as env (g.N.Names.env c.declare.new.self) s (stmt.Var c.in-Var.word c.in-Var.name m.of_kind None) (Var c.in-Var.word c.in-Var.name m.of_kind None) m.made
    (var_stmt c.in-Var.word c.in-Var.name m.of_kind None)
    (c.in_ok-declare-in-Var.ensures.env ∙ ap (λ (k : Option GoType). with_variable env c.in-Var.name k) (c.kind_at-own.ensures m.of_kind m.at_kind.is))

pub kind_at-own-requires-in-VarValue-clause-some : goal.kind_at-own-requires-in-VarValue-clause-some
kind_at-own-requires-in-VarValue-clause-some g c =
    let m = c.in-VarValue.ensures c.requires.some.whole c.requires.some.part in
    type_there c.args.nodes.now c.args.at c.in-VarValue.kind m.of_kind c.requires.some.within m.at_kind

pub returns-in_ok-declare-in-VarValue-clause-env : goal.returns-in_ok-declare-in-VarValue-clause-env
returns-in_ok-declare-in-VarValue-clause-env g c = λ s h.
    let env = g.N.Names.env c.args.names.now in
    let m = c.in-VarValue.ensures s h in
    seen_as env (g.N.Names.env c.declare-in-VarValue.new.self) s (stmt.Var c.in-VarValue.word c.in-VarValue.name m.of_kind (Some m.of_value))
    (Var c.in-VarValue.word c.in-VarValue.name m.of_kind (Some (right_of m.of_value))) m.made (var_stmt c.in-VarValue.word c.in-VarValue.name m.of_kind (Some m.of_value))
    (c.in_ok-declare-in-VarValue.ensures.env ∙ ap (λ (k : Option GoType). with_variable env c.in-VarValue.name k) (c.kind_at-own-in-VarValue.ensures m.of_kind m.at_kind.is))

pub returns-in-If-clause-env : goal.returns-in-If-clause-env
returns-in-If-clause-env g c = λ s h.
    let env = g.N.Names.env c.args.names.now in
    let m = c.in-If.ensures s h in
    seen_as env env s (stmt.If c.in-If.word m.of_condition m.of_body None) (If c.in-If.word (expr_of m.of_condition) (block_of m.of_body) no_branch) m.made
    (if_stmt c.in-If.word m.of_condition m.of_body) refl

pub returns-in-IfElse-clause-env : goal.returns-in-IfElse-clause-env
returns-in-IfElse-clause-env g c = λ s h.
    let env = g.N.Names.env c.args.names.now in
    let m = c.in-IfElse.ensures s h in
    seen_as env env s (stmt.If c.in-IfElse.word m.of_condition m.of_body (Some m.of_other)) (If c.in-IfElse.word (expr_of m.of_condition) (block_of m.of_body) (branch (stmt_of m.of_other))) m.made
    (else_stmt c.in-IfElse.word m.of_condition m.of_body m.of_other) refl

pub returns-in-Nested-clause-env : goal.returns-in-Nested-clause-env
returns-in-Nested-clause-env g c = λ s h.
    let env = g.N.Names.env c.args.names.now in
    let m = c.in-Nested.ensures s h in
    seen_as env env s (stmt.Block m.of_block) (Nested (block_of m.of_block)) m.made
    (nested_stmt m.of_block) refl

pub returns-in-Jump-clause-env : goal.returns-in-Jump-clause-env
returns-in-Jump-clause-env g c = λ s h.
    let env = g.N.Names.env c.args.names.now in
    let m = c.in-Jump.ensures s h in
    seen_as env env s (stmt.Jump c.in-Jump.word) (Jump c.in-Jump.word) m
    (jump_stmt c.in-Jump.word) refl

pub returns-in-Forever-clause-env : goal.returns-in-Forever-clause-env
returns-in-Forever-clause-env g c = λ s h.
    let env = g.N.Names.env c.args.names.now in
    let m = c.in-Forever.ensures s h in
    seen_as env env s (stmt.For c.in-Forever.word (record { first = None; condition = None; post = None }) m.of_body) (For c.in-Forever.word (header_of (record { first = None; condition = None; post = None })) (block_of m.of_body)) m.made
    (for_stmt c.in-Forever.word (record { first = None; condition = None; post = None }) m.of_body) refl

pub returns-in-While-clause-env : goal.returns-in-While-clause-env
returns-in-While-clause-env g c = λ s h.
    let env = g.N.Names.env c.args.names.now in
    let m = c.in-While.ensures s h in
    seen_as env env s (stmt.For c.in-While.word (record { first = None; condition = Some m.of_condition; post = None }) m.of_body) (For c.in-While.word (header_of (record { first = None; condition = Some m.of_condition; post = None })) (block_of m.of_body)) m.made
    (for_stmt c.in-While.word (record { first = None; condition = Some m.of_condition; post = None }) m.of_body) refl

pub returns-in-For-clause-env : goal.returns-in-For-clause-env
returns-in-For-clause-env g c = λ s h.
    let env = g.N.Names.env c.args.names.now in
    let m = c.in-For.ensures s h in
    seen_as env env s (stmt.For c.in-For.word (record { first = m.of_first; condition = m.of_condition; post = m.of_post }) m.of_body) (For c.in-For.word (header_of (record { first = m.of_first; condition = m.of_condition; post = m.of_post })) (block_of m.of_body)) m.made
    (for_stmt c.in-For.word (record { first = m.of_first; condition = m.of_condition; post = m.of_post }) m.of_body) refl

pub returns-in-Return-clause-env : goal.returns-in-Return-clause-env
returns-in-Return-clause-env g c = λ s h.
    let env = g.N.Names.env c.args.names.now in
    let m = c.in-Return.ensures s h in
    seen_as env env s (stmt.Return c.in-Return.word m.of_rights) (Return c.in-Return.word (map right_of m.of_rights)) m.made
    (return_stmt c.in-Return.word m.of_rights) refl

pub returns-in-Go-clause-env : goal.returns-in-Go-clause-env
returns-in-Go-clause-env g c = λ s h.
    let env = g.N.Names.env c.args.names.now in
    let m = c.in-Go.ensures s h in
    seen_as env env s (stmt.Go c.in-Go.word m.of_body) (Go c.in-Go.word (block_of m.of_body)) m.made
    (go_stmt c.in-Go.word m.of_body) refl
