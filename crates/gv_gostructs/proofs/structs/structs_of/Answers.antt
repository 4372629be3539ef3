use Rattle.std.proofs.Common.{rules, ◌≡◌, ℕ, ◌+◌, List, [], ◌∷◌, Option, drop, ap, sym, subst, refl, ◌∙◌}
use Rattle.std.proofs.lemmas.List.{drop_all}
use Rattle.gv_gotypes.specs.Scopes.{Env}
use Rattle.gv_gotyped.specs.declared.fault.Fault.{Fault}
use Rattle.gv_gonames.specs.Structs.{StructOf}
use Rattle.gv_goheads.specs.declared.head.Head.{Head}
use Rattle.gv_goheads.specs.Heads.{bare, bares}
use Rattle.gv_goseen.specs.Seen.{env_of}
use Rattle.gv_gostructs.proofs.Rests.{AreDeclared, declared_first, declared_more, declared_none, drop_item}
use Rattle.gv_gostructs.proofs.structs.structs_of.Goals as goal

pub loop-head-init : goal.loop-head-init
loop-head-init c = declared_first (env_of c.args.seen.now) c.args.seen.now.text.now c.new-structs.result.items (bares c.args.heads.now) c.new-structs.ensures.items

pub loop-head-preserved : goal.loop-head-preserved
loop-head-preserved c =
    let env : Env = env_of c.args.seen.now in
    let text : List ℕ = c.args.seen.now.text.now in
    let heads : List Head = c.args.heads.now in
    let i : ℕ = c.loop-head.head-index in
    let d : Head = c.head-item.result in
    let l : AreDeclared env text c.loop-head.structs.items c.loop-head.first (bares heads) (bare d ∷ bares (drop (i + 1) heads))
    = subst (λ (hs : List Head). AreDeclared env text c.loop-head.structs.items c.loop-head.first (bares heads) (bares hs))
    (drop_item heads i d c.loop-head-test.true c.head-item.is) c.loop-head.invariant in
    subst (λ (f : Option Fault). AreDeclared env text c.declare_struct.new.structs.items f (bares heads) (bares (drop (i + 1) heads))) (sym c.earliest-first.ensures)
    (declared_more env text c.loop-head.structs.items c.declare_struct.new.structs.items c.loop-head.first c.in_ok-own.own (bares heads) (bares (drop (i + 1) heads)) (bare d) l
    c.in_ok-own.ensures.told c.in_ok-own.ensures.declared)

pub returns-clause-told : goal.returns-clause-told
returns-clause-told c =
    (declared_none (env_of c.args.seen.now) c.args.seen.now.text.now c.loop-head.structs.items c.loop-head.first (bares c.args.heads.now)
    (subst (λ (hs : List Head). AreDeclared (env_of c.args.seen.now) c.args.seen.now.text.now c.loop-head.structs.items c.loop-head.first (bares c.args.heads.now) (bares hs))
    (drop_all c.loop-head.head-index c.args.heads.now c.loop-head-test.false) c.loop-head.invariant)).0

pub returns-clause-declared : goal.returns-clause-declared
returns-clause-declared c =
    (declared_none (env_of c.args.seen.now) c.args.seen.now.text.now c.loop-head.structs.items c.loop-head.first (bares c.args.heads.now)
    (subst (λ (hs : List Head). AreDeclared (env_of c.args.seen.now) c.args.seen.now.text.now c.loop-head.structs.items c.loop-head.first (bares c.args.heads.now) (bares hs))
    (drop_all c.loop-head.head-index c.args.heads.now c.loop-head-test.false) c.loop-head.invariant)).1
