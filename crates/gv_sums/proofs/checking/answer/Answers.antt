use Rattle.std.proofs.Common.{◌≡◌, ◌∙◌, ap, sym, subst, refl, map, length, arith}
use Rattle.gv_terms.specs.Store.{trees_at}
use Rattle.gv_certs.specs.Sums.{row_of}
use Rattle.gv_certs.specs.Proving.{unknowns}
use Rattle.gv_sums.specs.Reading.{comparisons_at, rows_over, AreLike}
use Rattle.gv_sums.proofs.Narrow.{all_narrow}
use Rattle.gv_sums.proofs.Parts.{length_here, factors_length, in_order_here, count_is, answer_here}
use Rattle.gv_sums.proofs.checking.answer.Goals as goal

pub check_linear-requires-clause-in_order : goal.check_linear-requires-clause-in_order
check_linear-requires-clause-in_order c =
    let st = c.args.store.now in
    let all = rows_over st c.args.sums.now c.as_slice.result.now c.args.comparisons.now in
    in_order_here c.as_slice-2.result.now all c.len-2.result (length c.as_slice.result.now)
    (subst (λ rs. AreLike (length c.as_slice.result.now) rs all) (sym c.as_slice-2.ensures.value) c.in_ok-matrix.ensures.told) (c.len-2.ensures ∙ sym c.as_slice.ensures.len)

pub check_linear-requires-clause-lengths : goal.check_linear-requires-clause-lengths
check_linear-requires-clause-lengths c =
    let st = c.args.store.now in
    let rows = length_here st c.args.sums.now c.as_slice.result.now c.args.comparisons.now c.in_ok-matrix.matrix.items (length c.as_slice.result.now) c.in_ok-matrix.ensures.told in
    let factors = factors_length c.args.factored.now in
    ap (λ rs. length rs) c.as_slice-2.ensures.value ∙ rows ∙ c.requires.lengths ∙ sym factors ∙ sym (ap (λ zs. length zs) (c.as_slice-3.ensures.value ∙ c.in_ok-factors.ensures))

pub check_linear-requires-clause-few : goal.check_linear-requires-clause-few
check_linear-requires-clause-few c =
    let st = c.args.store.now in
    let rows = length_here st c.args.sums.now c.as_slice.result.now c.args.comparisons.now c.in_ok-matrix.matrix.items (length c.as_slice.result.now) c.in_ok-matrix.ensures.told in
    let here : length c.as_slice-2.result.now ≡ length c.in_ok-matrix.matrix.items = ap (λ rs. length rs) c.as_slice-2.ensures.value in
    omega (arith, here, rows, c.if-comparisons.false)

pub returns-clause-narrow : goal.returns-clause-narrow
returns-clause-narrow c =
    let st = c.args.store.now in
    all_narrow (trees_at st c.args.sums.now) (comparisons_at st c.args.comparisons.now) c.in_ok-unknowns.ensures.short

pub returns-clause-told : goal.returns-clause-told
returns-clause-told c =
    let st = c.args.store.now in
    let sums = trees_at st c.args.sums.now in
    let cs = comparisons_at st c.args.comparisons.now in
    let all = rows_over st c.args.sums.now c.as_slice.result.now c.args.comparisons.now in
    answer_here c.as_slice-2.result.now all _ c.as_slice-3.result.now _ c.len-2.result (length c.as_slice.result.now) _ c.check_linear.result
    (subst (λ rs. AreLike (length c.as_slice.result.now) rs all) (sym c.as_slice-2.ensures.value) c.in_ok-matrix.ensures.told) (c.len-2.ensures ∙ sym c.as_slice.ensures.len)
    (ap (λ vs. map (row_of sums (trees_at st vs)) cs) c.as_slice.ensures.value ∙ ap (λ us. map (row_of sums us) cs) c.in_ok-unknowns.ensures.told)
    (c.as_slice-3.ensures.value ∙ c.in_ok-factors.ensures)
    (count_is st (unknowns sums cs) c.in_ok-unknowns.unknowns.items c.len-2.result (c.len-2.ensures ∙ sym c.as_slice.ensures.len ∙ ap (λ vs. length vs) c.as_slice.ensures.value) c.in_ok-unknowns.ensures.told) ((c.check_linear.ensures.exact c.check_linear.result).0 refl)
