use Rattle.std.proofs.Common.{◌≡◌, ℕ, ◌+◌, List, ◌∷◌, ◌++◌, Option, drop, ap, sym, ◌∙◌}
use Rattle.std.proofs.lemmas.List.{drop_all}
use Rattle.gv_gosyntax.specs.declared.lexeme.Lexeme.{Lexeme}
use Rattle.gv_gosyntax.specs.declared.tree.Group.{Group}
use Rattle.gv_operands.specs.declared.types.GoType.{GoType}
use Rattle.gv_gotypes.specs.Scopes.{Env}
use Rattle.gv_gotypes.specs.Kinds.{kind_of}
use Rattle.gv_gotypes.specs.Declarations.{group_kinds, param_kinds}
use Rattle.gv_goseen.specs.Seen.{env_of}
use Rattle.gv_gostructs.proofs.Rests.{drop_item}
use Rattle.gv_godeclared.proofs.Lists.{moved, all_moved}
use Rattle.gv_godeclared.proofs.procedures.param_kinds.Goals as goal

pub loop-group-preserved : goal.loop-group-preserved
loop-group-preserved c =
    let env : Env = env_of c.args.seen.now in
    let groups : List Group = c.args.groups.now in
    let i : ℕ = c.loop-group.group-index in
    let g : Group = c.group-item.result in
    let old : List (Option GoType) = c.loop-group.kinds.items in
    let new : List (Option GoType) = c.push_kinds.new.kinds.items in
    moved old new (group_kinds env g.names (kind_of env g.kind)) (param_kinds env (drop (i + 1) groups)) (param_kinds env groups)
    (ap (λ (gs : List Group). old ++ param_kinds env gs) (sym (drop_item groups i g c.loop-group-test.true c.group-item.is)) ∙ c.loop-group.invariant)
    (c.in_ok-push_kinds.ensures env
    ∙ ap (λ (ns : List Lexeme). old ++ group_kinds env ns c.written_at-kind.result.kind) c.as_slice.ensures
    ∙ ap (λ (k : Option GoType). old ++ group_kinds env g.names k) c.written_at-kind.ensures.kind)

pub returns : goal.returns
returns c =
    let env : Env = env_of c.args.seen.now in
    all_moved c.loop-group.kinds.items (param_kinds env c.args.groups.now)
    (ap (λ (gs : List Group). c.loop-group.kinds.items ++ param_kinds env gs) (sym (drop_all c.loop-group.group-index c.args.groups.now c.loop-group-test.false)) ∙ c.loop-group.invariant)
