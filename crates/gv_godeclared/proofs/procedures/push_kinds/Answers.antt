use Rattle.std.proofs.Common.{◌≡◌, ℕ, ◌+◌, List, [], ◌∷◌, ◌++◌, Option, drop, get_or, ap, sym, ◌∙◌}
use Rattle.std.proofs.lemmas.List.{drop_all, drop_more}
use Rattle.gv_gosyntax.specs.declared.lexeme.Lexeme.{Lexeme}
use Rattle.gv_operands.specs.declared.types.GoType.{GoType}
use Rattle.gv_gotypes.specs.Declarations.{group_kinds}
use Rattle.gv_godeclared.proofs.Lists.{moved, all_moved}
use Rattle.gv_godeclared.proofs.procedures.push_kinds.Goals as goal

pub loop-name-preserved : goal.loop-name-preserved
loop-name-preserved c = λ env.
    let names : List Lexeme = c.args.names.now in
    let i : ℕ = c.loop-name.name-index in
    let k : Option GoType = c.args.kind in
    let old : List (Option GoType) = c.loop-name.kinds.items in
    moved old c.push.new.self.items (k ∷ []) (group_kinds env (drop (i + 1) names) k) (c.args.kinds.now.items ++ group_kinds env names k)
    (ap (λ (ts : List Lexeme). old ++ group_kinds env ts k) (sym (drop_more names i (record { class = 0; start = 0; end = 0 }) c.loop-name-test.true)) ∙ c.loop-name.invariant env)
    c.in_ok-push.ensures.items

pub returns : goal.returns
returns c = λ env.
    let k : Option GoType = c.args.kind in
    all_moved c.loop-name.kinds.items (c.args.kinds.now.items ++ group_kinds env c.args.names.now k)
    (ap (λ (ts : List Lexeme). c.loop-name.kinds.items ++ group_kinds env ts k) (sym (drop_all c.loop-name.name-index c.args.names.now c.loop-name-test.false)) ∙ c.loop-name.invariant env)
