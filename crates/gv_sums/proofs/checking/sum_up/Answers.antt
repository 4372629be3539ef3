use Rattle.std.proofs.Common.{◌∙◌, ap, sym}
use Rattle.gv_terms.specs.Store.{tree_at, trees_at}
use Rattle.gv_side.proofs.Lists.{handed_on}
use Rattle.gv_sums.specs.Reading.{comparison_at, sum_at}
use Rattle.gv_sums.specs.Telling.{IsLaterFault}
use Rattle.gv_sums.proofs.Parts.{in_rows, no_order, with_denied, of_certificate, narrow_of, shown, not_shown}
use Rattle.gv_sums.proofs.checking.sum_up.Goals as goal

pub returns-in_err-comparisons-clause-cause : goal.returns-in_err-comparisons-clause-cause
returns-in_err-comparisons-clause-cause c =
    let st = c.args.store.now in
    let facts = trees_at st c.args.facts.now in
    let f = tree_at st c.args.goal.id in
    let s = sum_at st c.args.sums.now c.args.rows.now in
    handed_on c.from_residual.result c.in_err-comparisons.field-0.0 (IsLaterFault facts f s) c.from_residual.ensures.1 (in_rows facts f s c.in_err-comparisons.field-0.0 c.in_err-comparisons.ensures.cause)

pub returns-in_default-clause-cause : goal.returns-in_default-clause-cause
returns-in_default-clause-cause c =
    let st = c.args.store.now in
    no_order (trees_at st c.args.facts.now) (tree_at st c.args.goal.id) (sum_at st c.args.sums.now c.args.rows.now) c.in_ok-comparisons.ensures.holds (sym c.in_default.ensures.told)

pub returns-clause-holds : goal.returns-clause-holds
returns-clause-holds c =
    let st = c.args.store.now in
    let facts = trees_at st c.args.facts.now in
    let f = tree_at st c.args.goal.id in
    let s = sum_at st c.args.sums.now c.args.rows.now in
    let order = comparison_at st c.in-Some.order in
    let ds = c.as_slice.result.now in
    let all = with_denied st c.in_ok-comparisons.comparisons.items ds c.args.rows.now c.args.sums.now c.denied.result order c.in_ok-comparisons.ensures.told
    (c.as_slice.ensures.value ∙ c.in_ok-push.ensures.items) (ap (comparison_at st) c.denied.ensures) in
    let narrow = narrow_of st ds c.args.rows.now c.args.sums.now order all c.in_ok-answer.ensures.narrow in
    let is = of_certificate st ds c.args.rows.now c.args.sums.now order c.in_ok-answer.field-0 all c.in_ok-answer.ensures.told in
    shown facts f s order c.in_ok-comparisons.ensures.holds (sym c.in-Some.ensures.told) narrow c.told.result c.in_ok-answer.field-0 is c.told.ensures.yes

pub returns-clause-cause : goal.returns-clause-cause
returns-clause-cause c =
    let st = c.args.store.now in
    let facts = trees_at st c.args.facts.now in
    let f = tree_at st c.args.goal.id in
    let s = sum_at st c.args.sums.now c.args.rows.now in
    let order = comparison_at st c.in-Some.order in
    let ds = c.as_slice.result.now in
    let all = with_denied st c.in_ok-comparisons.comparisons.items ds c.args.rows.now c.args.sums.now c.denied.result order c.in_ok-comparisons.ensures.told
    (c.as_slice.ensures.value ∙ c.in_ok-push.ensures.items) (ap (comparison_at st) c.denied.ensures) in
    let narrow = narrow_of st ds c.args.rows.now c.args.sums.now order all c.in_ok-answer.ensures.narrow in
    let is = of_certificate st ds c.args.rows.now c.args.sums.now order c.in_ok-answer.field-0 all c.in_ok-answer.ensures.told in
    not_shown facts f s order c.in_ok-comparisons.ensures.holds (sym c.in-Some.ensures.told) narrow c.told.result c.in_ok-answer.field-0 is c.told.ensures.cause
