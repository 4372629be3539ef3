use Rattle.std.proofs.Common.{◌≡◌, List, Option, false, get_or, set, refl, ap, ◌∙◌}
use Rattle.std.specs.Prelude.{slice_get}
use Rattle.gv_operands.specs.declared.types.Class.{Class}
use Rattle.gv_gotypes.specs.Scopes.{Env}
use Rattle.gv_gonamed.specs.Laws.{with_these}
use Rattle.gv_goseen.specs.Seen.{env_of}
use Rattle.gv_goconsts.specs.declared.constants.ConstantNode.{ConstantNode}
use Rattle.gv_goconsts.specs.Constants.{made_of}
use Rattle.gv_goconsts.proofs.Walks.{there_at, some_expr, made_there, with_classes, seen_with, classes_seen}
use Rattle.gv_goconsts.proofs.settling.settle.Goals as goal

pub operand_at-known-requires-clause-some : goal.operand_at-known-requires-clause-some
operand_at-known-requires-clause-some c =
    let constants = c.args.constants.now in
    let d : ConstantNode = record { is_word = false; value = 0 } in
    let x = get_or constants c.args.number d in
    some_expr c.args.nodes.now x x c.requires.some.trees c.args.number refl
    (there_at c.args.nodes.now constants c.requires.some.trees c.args.number d c.requires.within c.requires.some.there)

pub returns-clause-settled : goal.returns-clause-settled
returns-clause-settled c = λ s p ks cs e h.
    let constants = c.args.constants.now in
    let n = c.args.number in
    let d : ConstantNode = record { is_word = false; value = 0 } in
    let x = get_or constants n d in
    let env = env_of c.args.seen.now in
    let items = c.args.seen.now.declared.constants.items in
    let here = made_there c.args.nodes.now env x x cs n c.operand_at-known.result c.settled.result refl
    (there_at c.args.nodes.now constants cs n d c.requires.within h) c.operand_at-known.ensures c.settled.ensures in
    let made = made_of (with_these s p ks) (slice_get cs n) in
    let same : c.settled.result ≡ made = here ∙ ap (λ (y : Env). made_of y (slice_get cs n)) e in
    let all : set items n c.settled.result ≡ set ks n made
    = ap (λ (xs : List (Option Class)). set xs n c.settled.result) (classes_seen env s p ks e) ∙ ap (λ (k : Option Class). set ks n k) same in
    seen_with env (with_classes env (set items n c.settled.result)) s p ks (set ks n made) e (ap (λ (js : List (Option Class)). with_classes env js) all)
