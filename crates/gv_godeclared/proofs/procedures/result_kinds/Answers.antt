use Rattle.std.proofs.Common.{◌≡◌, ℕ, ◌+◌, List, [], ◌∷◌, ◌++◌, Option, drop, map, ap, sym, ◌∙◌}
use Rattle.std.proofs.lemmas.List.{drop_all, drop_more}
use Rattle.gv_gosyntax.specs.declared.tree.GoType.{GoType as TypeTree}
use Rattle.gv_gosyntax.specs.declared.tree.GoType.TheVariants.{Word}
use Rattle.gv_operands.specs.declared.types.GoType.{GoType}
use Rattle.gv_gotypes.specs.Scopes.{Env}
use Rattle.gv_gotypes.specs.Kinds.{kind_of}
use Rattle.gv_goseen.specs.Seen.{env_of}
use Rattle.gv_godeclared.proofs.Lists.{moved, all_moved}
use Rattle.gv_godeclared.proofs.procedures.result_kinds.Goals as goal

pub loop-written-preserved : goal.loop-written-preserved
loop-written-preserved c =
    let env : Env = env_of c.args.seen.now in
    let types : List TypeTree = c.args.types.now in
    let i : ℕ = c.loop-written.written-index in
    let old : List (Option GoType) = c.loop-written.kinds.items in
    moved old c.push.new.self.items _ (map (kind_of env) (drop (i + 1) types)) (map (kind_of env) types)
    (ap (λ (ts : List TypeTree). old ++ map (kind_of env) ts) (sym (drop_more types i (Word (record { class = 0; start = 0; end = 0 })) c.loop-written-test.true)) ∙ c.loop-written.invariant)
    (c.in_ok-push.ensures.items ∙ ap (λ (k : Option GoType). old ++ k ∷ []) c.written_at.ensures.kind)

pub returns : goal.returns
returns c =
    let env : Env = env_of c.args.seen.now in
    all_moved c.loop-written.kinds.items (map (kind_of env) c.args.types.now)
    (ap (λ (ts : List TypeTree). c.loop-written.kinds.items ++ map (kind_of env) ts) (sym (drop_all c.loop-written.written-index c.args.types.now c.loop-written-test.false)) ∙ c.loop-written.invariant)
