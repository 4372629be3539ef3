use Rattle.gv_terms.specs.Store.{tree_at, trees_at}
use Rattle.gv_certs.specs.Proving as proving
use Rattle.gv_known.proofs.Nodes.{tree_kept}
use Rattle.gv_side.proofs.Lists.{handed_on, trees_same}
use Rattle.gv_sums.specs.Reading.{sum_at}
use Rattle.gv_sums.specs.Telling.{IsShown, IsLaterFault, IsFailure}
use Rattle.gv_sums.proofs.Results.{if_ok, if_err}
use Rattle.gv_sums.proofs.Parts.{sums_first, all_shown, later_first, sum_at_kept, shown_kept, fault_kept}
use Rattle.gv_sums.proofs.checking.linear.Goals as goal

pub returns-in_err-ask_sums-clause-cause : goal.returns-in_err-ask_sums-clause-cause
returns-in_err-ask_sums-clause-cause c =
    let st = c.args.store.now in
    let facts = trees_at st c.args.facts.now in
    let f = tree_at st c.args.goal.id in
    let s = sum_at st c.args.sums.now c.args.rows.now in
    let e = c.in_err-ask_sums.field-0.0 in
    handed_on c.from_residual.result e (IsFailure facts f (proving.linear s)) c.from_residual.ensures.1 (sums_first facts f s e c.in_err-ask_sums.ensures.cause)

pub returns-clause-holds : goal.returns-clause-holds
returns-clause-holds c =
    let st = c.args.store.now in
    let new = c.ask_sums.new.store in
    let facts = trees_at st c.args.facts.now in
    let f = tree_at st c.args.goal.id in
    let s = sum_at st c.args.sums.now c.args.rows.now in
    let known = trees_at new c.args.facts.now in
    let g = tree_at new c.args.goal.id in
    let t = sum_at new c.args.sums.now c.args.rows.now in
    let grows = c.ask_sums.ensures.grows in
    if_ok c.sum_up.result (λ _. IsShown known g t) (λ _. proving.Proves facts f (proving.linear s)) c.sum_up.ensures.holds
    (λ _ h. all_shown facts f s c.in_ok-ask_sums.ensures.holds
    (shown_kept facts known f g s t (trees_same st new c.args.facts.now c.requires.facts grows) (tree_kept st new c.args.goal c.requires.goal grows)
    (sum_at_kept st new c.args.sums.now c.args.rows.now c.requires.sums c.requires.rows grows) h))

pub returns-clause-cause : goal.returns-clause-cause
returns-clause-cause c =
    let st = c.args.store.now in
    let new = c.ask_sums.new.store in
    let facts = trees_at st c.args.facts.now in
    let f = tree_at st c.args.goal.id in
    let s = sum_at st c.args.sums.now c.args.rows.now in
    let known = trees_at new c.args.facts.now in
    let g = tree_at new c.args.goal.id in
    let t = sum_at new c.args.sums.now c.args.rows.now in
    let grows = c.ask_sums.ensures.grows in
    if_err c.sum_up.result (IsLaterFault known g t) (IsFailure facts f (proving.linear s)) c.sum_up.ensures.cause
    (λ e h. later_first facts f s c.in_ok-ask_sums.ensures.holds e
    (fault_kept facts known f g s t e (trees_same st new c.args.facts.now c.requires.facts grows) (tree_kept st new c.args.goal c.requires.goal grows)
    (sum_at_kept st new c.args.sums.now c.args.rows.now c.requires.sums c.requires.rows grows) h))
