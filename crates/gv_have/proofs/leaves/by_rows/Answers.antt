use Rattle.std.proofs.Common.{◌∙◌, Some, ap, sym}
use Rattle.gv_terms.specs.Store.{tree_at, trees_at}
use Rattle.gv_terms.proofs.RawParts.{grows_on}
use Rattle.gv_known.proofs.Nodes.{tree_kept}
use Rattle.gv_side.proofs.Lists.{trees_same}
use Rattle.gv_sums.proofs.Results.{if_ok, if_err}
use Rattle.gv_have.specs.Telling.{IsProof, IsNoProof}
use Rattle.std.proofs.Common.{map}
use Rattle.gv_certs.specs.Proving.{Proves}
use Rattle.gv_sums.specs.Reading.{row_at, linear_at}
use Rattle.gv_sums.specs.Telling.{IsFailure}
use Rattle.gv_have.specs.Scoping.{terms_of, rows_of, sum_in}
use Rattle.gv_have.proofs.Termed.{make_linear}
use Rattle.gv_have.proofs.Proofs.{some_both, is_proof, is_no_proof}
use Rattle.gv_have.proofs.leaves.by_rows.Goals as goal

pub returns-clause-holds : goal.returns-clause-holds
returns-clause-holds c =
    let st = c.args.store.now in
    let new = c.rows.new.store in
    let facts = c.args.facts.now in
    let F = trees_at st facts in
    let G = trees_at new facts in
    let f = tree_at st c.args.goal.id in
    let g = tree_at new c.args.goal.id in
    let grows = grows_on st c.all_terms.new.store new c.all_terms.ensures.grows c.rows.ensures.grows in
    let sums = c.as_slice.result.now in
    let made = c.as_slice-2.result.now in
    let ts = trees_at new sums in
    let rs = map (row_at new) made in
    let first = c.in_ok-sums.ensures.trees ∙ ap (λ us. Some us) (sym (trees_same c.all_terms.new.store new c.in_ok-sums.sums.items c.in_ok-sums.ensures.within c.rows.ensures.grows))
    ∙ ap (λ ps. Some (trees_at new ps)) (sym c.as_slice.ensures.value) in
    let second = c.in_ok-factored.ensures.trees ∙ ap (λ qs. Some (map (row_at new) qs)) (sym c.as_slice-2.ensures.value) in
    let o = sum_in c.args.scope.now c.args.sums.now c.args.factored.now in
    let there = some_both (terms_of c.args.scope.now c.args.sums.now) (rows_of c.args.scope.now c.args.factored.now) ts rs make_linear first second in
    if_ok c.linear.result (λ _. Proves G g (linear_at new sums made)) (λ _. IsProof o F f) c.linear.ensures.holds
    (λ _ h. is_proof o (linear_at new sums made) F G f g there (trees_same st new facts c.requires.facts grows) (tree_kept st new c.args.goal c.requires.goal grows) h)

pub returns-clause-cause : goal.returns-clause-cause
returns-clause-cause c =
    let st = c.args.store.now in
    let new = c.rows.new.store in
    let facts = c.args.facts.now in
    let F = trees_at st facts in
    let G = trees_at new facts in
    let f = tree_at st c.args.goal.id in
    let g = tree_at new c.args.goal.id in
    let grows = grows_on st c.all_terms.new.store new c.all_terms.ensures.grows c.rows.ensures.grows in
    let sums = c.as_slice.result.now in
    let made = c.as_slice-2.result.now in
    let ts = trees_at new sums in
    let rs = map (row_at new) made in
    let first = c.in_ok-sums.ensures.trees ∙ ap (λ us. Some us) (sym (trees_same c.all_terms.new.store new c.in_ok-sums.sums.items c.in_ok-sums.ensures.within c.rows.ensures.grows))
    ∙ ap (λ ps. Some (trees_at new ps)) (sym c.as_slice.ensures.value) in
    let second = c.in_ok-factored.ensures.trees ∙ ap (λ qs. Some (map (row_at new) qs)) (sym c.as_slice-2.ensures.value) in
    let o = sum_in c.args.scope.now c.args.sums.now c.args.factored.now in
    let there = some_both (terms_of c.args.scope.now c.args.sums.now) (rows_of c.args.scope.now c.args.factored.now) ts rs make_linear first second in
    if_err c.linear.result (IsFailure G g (linear_at new sums made)) (IsNoProof o F f) c.linear.ensures.cause
    (λ e h. is_no_proof o (linear_at new sums made) F G f g there (trees_same st new facts c.requires.facts grows) (tree_kept st new c.args.goal c.requires.goal grows) e h)
