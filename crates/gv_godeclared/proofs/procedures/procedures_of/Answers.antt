use Rattle.std.proofs.Common.{◌≡◌, ℕ, ◌+◌, List, [], ◌∷◌, ◌++◌, drop, map, ap, sym, ◌∙◌}
use Rattle.std.proofs.lemmas.List.{drop_all}
use Rattle.gv_gotypes.specs.Scopes.{Env, Signature}
use Rattle.gv_gotypes.specs.Declarations.{signatures}
use Rattle.gv_goheads.specs.declared.head.Head.{Head}
use Rattle.gv_goheads.specs.Heads.{bare, bares}
use Rattle.gv_goseen.specs.Seen.{env_of, signature_of}
use Rattle.gv_goseen.specs.declared.declared.Procedure.{Procedure}
use Rattle.gv_gostructs.proofs.Rests.{drop_item}
use Rattle.gv_godeclared.proofs.Lists.{moved, all_moved, signatures_split}
use Rattle.gv_godeclared.proofs.procedures.procedures_of.Goals as goal

pub loop-head-init : goal.loop-head-init
loop-head-init c = ap (λ (xs : List Procedure). map signature_of xs ++ signatures (env_of c.args.seen.now) (bares c.args.heads.now)) c.new-procedures.ensures.items

pub loop-head-preserved : goal.loop-head-preserved
loop-head-preserved c =
    let env : Env = env_of c.args.seen.now in
    let heads : List Head = c.args.heads.now in
    let i : ℕ = c.loop-head.head-index in
    let d : Head = c.head-item.result in
    let old : List Signature = map signature_of c.loop-head.procedures.items in
    let new : List Signature = map signature_of c.push_procedure.new.procedures.items in
    moved old new (signatures env (bare d ∷ [])) (signatures env (bares (drop (i + 1) heads))) (signatures env (bares heads))
    (ap (λ (ss : List Signature). old ++ ss) (sym (signatures_split env (bare d) (bares (drop (i + 1) heads))))
    ∙ ap (λ (hs : List Head). old ++ signatures env (bares hs)) (sym (drop_item heads i d c.loop-head-test.true c.head-item.is)) ∙ c.loop-head.invariant)
    c.in_ok-push_procedure.ensures

pub returns : goal.returns
returns c =
    let env : Env = env_of c.args.seen.now in
    all_moved (map signature_of c.loop-head.procedures.items) (signatures env (bares c.args.heads.now))
    (ap (λ (hs : List Head). map signature_of c.loop-head.procedures.items ++ signatures env (bares hs)) (sym (drop_all c.loop-head.head-index c.args.heads.now c.loop-head-test.false)) ∙ c.loop-head.invariant)
