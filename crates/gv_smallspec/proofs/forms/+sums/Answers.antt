use Rattle.std.proofs.Common.{◌≡◌, Some, None, IfOk, map, sym, subst, ◌∙◌, rules}
use Rattle.gv_terms.specs.Store.{tree_at}
use Rattle.gv_terms.specs.Trees.{root_of, branches_of}
use Rattle.gv_small.specs.declared.sum_reader.Sum.{Sum}
use Rattle.gv_base.specs.declared.small.Part.TheVariants.{Number}
use Rattle.std.proofs.Common.{Option}
use Rattle.gv_smallspec.specs.SmallSpec.{sum_by, sum_of}
use Rattle.gv_smallspec.proofs.Sums.{by_sums}
use Rattle.gv_smallspec.proofs.forms.+sums.Goals as goal

pub sum_of-returns-in-Variable : goal.sum_of-returns-in-Variable
sum_of-returns-in-Variable t c =
    let params = c.args.params.now in
    let tree = tree_at c.args.store.now c.args.term.id in
    let given : IfOk c.variable.result (λ o. o ≡ sum_by params (root_of tree) (map (sum_of params) (branches_of tree))) = search rules in
    subst (λ (x : Option Sum). IfOk c.variable.result (λ o. o ≡ x)) (sym (by_sums params tree)) given

pub sum_of-returns-in-Apply-Number : goal.sum_of-returns-in-Apply-Number
sum_of-returns-in-Apply-Number t c =
    let params = c.args.params.now in
    let tree = tree_at c.args.store.now c.args.term.id in
    let given : Some (record { first = Number c.in-Apply-Number.value; rest = c.new.result })
    ≡ sum_by params (root_of tree) (map (sum_of params) (branches_of tree)) = search rules in
    given ∙ sym (by_sums params tree)

pub sum_of-returns-in-Apply-Plus : goal.sum_of-returns-in-Apply-Plus
sum_of-returns-in-Apply-Plus t c =
    let params = c.args.params.now in
    let tree = tree_at c.args.store.now c.args.term.id in
    let given : IfOk c.turned.result (λ o. o ≡ sum_by params (root_of tree) (map (sum_of params) (branches_of tree))) = search rules in
    subst (λ (x : Option Sum). IfOk c.turned.result (λ o. o ≡ x)) (sym (by_sums params tree)) given

pub sum_of-returns-in-Apply-Minus : goal.sum_of-returns-in-Apply-Minus
sum_of-returns-in-Apply-Minus t c =
    let params = c.args.params.now in
    let tree = tree_at c.args.store.now c.args.term.id in
    let given : IfOk c.turned-in-Apply-Minus.result (λ o. o ≡ sum_by params (root_of tree) (map (sum_of params) (branches_of tree))) = search rules in
    subst (λ (x : Option Sum). IfOk c.turned-in-Apply-Minus.result (λ o. o ≡ x)) (sym (by_sums params tree)) given

pub sum_of-returns-in-Apply : goal.sum_of-returns-in-Apply
sum_of-returns-in-Apply t c =
    let params = c.args.params.now in
    let tree = tree_at c.args.store.now c.args.term.id in
    let given : None ≡ sum_by params (root_of tree) (map (sum_of params) (branches_of tree)) = search rules in
    given ∙ sym (by_sums params tree)
