use Rattle.std.proofs.Common.{◌≡◌, ℕ, ◌+◌, List, [], ◌∷◌, Option, drop, ap, sym, subst, refl, ◌∙◌}
use Rattle.std.proofs.lemmas.List.{drop_all}
use Rattle.gv_gotypes.specs.Scopes.{Env}
use Rattle.gv_gotyped.specs.declared.fault.Fault.{Fault}
use Rattle.gv_goheads.specs.declared.head.Head.{Head}
use Rattle.gv_goheads.specs.Heads.{bare, bares}
use Rattle.gv_goheads.specs.Naming.{counts_of}
use Rattle.gv_goseen.specs.Seen.{env_of}
use Rattle.gv_gostructs.proofs.Rests.{drop_item}
use Rattle.gv_gomethods.proofs.Growth.{AreAdded, added_first, added_more, added_none, added_in}
use Rattle.gv_gomethods.proofs.methods.declare_methods.Goals as goal

pub loop-head-init : goal.loop-head-init
loop-head-init c = added_first (env_of c.args.seen.now) c.args.seen.now.text.now c.args.structs.now.items (counts_of c.none-counted.result) (bares c.args.heads.now) c.none-counted.ensures c.requires

pub declare_head-requires : goal.declare_head-requires
declare_head-requires c =
    added_in (env_of c.args.seen.now) c.args.seen.now.text.now c.loop-head.structs.items c.loop-head.first (counts_of c.loop-head.counted) (bares c.args.heads.now) (bares (drop c.loop-head.head-index c.args.heads.now))
    c.loop-head.invariant

pub loop-head-preserved : goal.loop-head-preserved
loop-head-preserved c =
    let env : Env = env_of c.args.seen.now in
    let text : List ℕ = c.args.seen.now.text.now in
    let heads : List Head = c.args.heads.now in
    let i : ℕ = c.loop-head.head-index in
    let d : Head = c.head-item.result in
    let l : AreAdded env text c.loop-head.structs.items c.loop-head.first (counts_of c.loop-head.counted) (bares heads) (bare d ∷ bares (drop (i + 1) heads))
    = subst (λ (hs : List Head). AreAdded env text c.loop-head.structs.items c.loop-head.first (counts_of c.loop-head.counted) (bares heads) (bares hs))
    (drop_item heads i d c.loop-head-test.true c.head-item.is) c.loop-head.invariant in
    subst (λ (f : Option Fault). AreAdded env text c.declare_head.new.structs.items f (counts_of c.in_ok-counted.counted) (bares heads) (bares (drop (i + 1) heads))) (sym c.earliest-first.ensures)
    (added_more env text c.loop-head.structs.items c.declare_head.new.structs.items c.loop-head.first c.in_ok-own.own (counts_of c.loop-head.counted) (counts_of c.in_ok-counted.counted)
    (bares heads) (bares (drop (i + 1) heads)) (bare d) refl l c.in_ok-counted.ensures
    c.in_ok-own.ensures.told c.in_ok-own.ensures.declared)

pub returns-clause-told : goal.returns-clause-told
returns-clause-told c =
    (added_none (env_of c.args.seen.now) c.args.seen.now.text.now c.loop-head.structs.items c.loop-head.first (counts_of c.loop-head.counted) (bares c.args.heads.now)
    (subst (λ (hs : List Head). AreAdded (env_of c.args.seen.now) c.args.seen.now.text.now c.loop-head.structs.items c.loop-head.first (counts_of c.loop-head.counted) (bares c.args.heads.now) (bares hs))
    (drop_all c.loop-head.head-index c.args.heads.now c.loop-head-test.false) c.loop-head.invariant)).0

pub returns-clause-declared : goal.returns-clause-declared
returns-clause-declared c =
    (added_none (env_of c.args.seen.now) c.args.seen.now.text.now c.loop-head.structs.items c.loop-head.first (counts_of c.loop-head.counted) (bares c.args.heads.now)
    (subst (λ (hs : List Head). AreAdded (env_of c.args.seen.now) c.args.seen.now.text.now c.loop-head.structs.items c.loop-head.first (counts_of c.loop-head.counted) (bares c.args.heads.now) (bares hs))
    (drop_all c.loop-head.head-index c.args.heads.now c.loop-head-test.false) c.loop-head.invariant)).1
