use Rattle.std.proofs.Common.{◌≡◌, ◌++◌, not, sym, refl}
use Rattle.gv_terms.specs.Store.{tree_at, trees_at}
use Rattle.gv_certs.specs.Sums.{summands}
use Rattle.gv_sums.specs.Reading.{summands_at, taken_if}
use Rattle.gv_sums.proofs.Results.{if_ok}
use Rattle.gv_sums.proofs.Adding.{itself, of_sum, of_difference, of_nothing}
use Rattle.gv_sums.proofs.summands.+add_summands.Goals as goal

pub returns-then-not-contains-clause-added : goal.returns-then-not-contains-clause-added
returns-then-not-contains-clause-added t c =
    let st = c.args.store.now in
    itself st (trees_at st c.args.sums.now) c.args.negative c.args.term c.args.to.now.items c.push.new.self.items c.contains.result c.contains.ensures c.if-not-contains.true c.in_ok-push.ensures.items

pub returns-in-Some-clause-added : goal.returns-in-Some-clause-added
returns-in-Some-clause-added t c =
    let st = c.args.store.now in
    let sums = trees_at st c.args.sums.now in
    let whole = tree_at st c.args.term.id in
    let n = c.args.negative in
    let old = c.args.to.now.items in
    let mid = c.add_summands.new.to.items in
    let new = c.add_summands-in-Some.new.to.items in
    let first = tree_at st c.in-Some.parts.first.id in
    let second = tree_at st c.in-Some.parts.second.id in
    if_ok c.add_summands-in-Some.result (λ _. summands_at st new ≡ summands_at st mid ++ taken_if n (summands sums second)) (λ _. summands_at st new ≡ summands_at st old ++ taken_if n (summands sums whole))
    c.add_summands-in-Some.ensures.added
    (λ _ e. of_sum st sums n c.args.term (first, second) old mid new c.contains.result c.contains.ensures c.if-not-contains.false (sym c.in-Some.ensures.parts) c.in_ok-add_summands.ensures.added e)

pub returns-in-Some-parts_under-clause-added : goal.returns-in-Some-parts_under-clause-added
returns-in-Some-parts_under-clause-added t c =
    let st = c.args.store.now in
    let sums = trees_at st c.args.sums.now in
    let whole = tree_at st c.args.term.id in
    let n = c.args.negative in
    let old = c.args.to.now.items in
    let mid = c.add_summands-in-Some-parts_under.new.to.items in
    let new = c.add_summands-in-Some-parts_under-2.new.to.items in
    let first = tree_at st c.in-Some-parts_under.parts.first.id in
    let second = tree_at st c.in-Some-parts_under.parts.second.id in
    if_ok c.add_summands-in-Some-parts_under-2.result (λ _. summands_at st new ≡ summands_at st mid ++ taken_if (not n) (summands sums second))
    (λ _. summands_at st new ≡ summands_at st old ++ taken_if n (summands sums whole))
    c.add_summands-in-Some-parts_under-2.ensures.added
    (λ _ e. of_difference st sums n c.args.term (first, second) old mid new c.contains.result c.contains.ensures c.if-not-contains.false (sym c.in-Some-parts_under.ensures.parts) c.in_ok-add_summands-2.ensures.added e)

pub returns-clause-added : goal.returns-clause-added
returns-clause-added t c =
    let st = c.args.store.now in
    of_nothing st (trees_at st c.args.sums.now) c.args.negative c.args.term c.args.to.now.items c.args.to.now.items c.contains.result c.contains.ensures c.if-not-contains.false
    (sym c.in_default.ensures.parts) (sym c.in_default-parts_under.ensures.parts) refl
