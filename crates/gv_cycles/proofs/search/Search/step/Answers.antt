use Rattle.std.proofs.Common.{◌≡◌, ℕ, ◌∷◌, [], List, length, reverse, sym, ap, subst, ◌∙◌, arith}
use Rattle.std.proofs.lemmas.List.{reverse-append}
use Rattle.gv_cycles.specs.Leading.{lists_of, row}
use Rattle.gv_cycles.specs.declared.search.Open.{Open}
use Rattle.gv_cycles.specs.Search.{IsSearchedBy, IsNamedLast, IsPassed}
use Rattle.gv_cycles.proofs.Lists.{row_is, in_there}
use Rattle.gv_cycles.proofs.Searches.{advanced, left, passed_there}
use Rattle.gv_cycles.proofs.search.Search.step.Goals as goal

pub enter-requires-clause-searched : goal.enter-requires-clause-searched
enter-requires-clause-searched c =
    let s = c.args.self.now in
    let rows = lists_of c.args.rows.now in
    let names = row rows c.args.top.number in
    let o : Open = record { number = c.args.top.number; next = c.first_new-next.result } in
    let same = row_is c.args.rows.now c.args.top.number c.index-rows-top.result c.index-rows-top.is c.requires.gone.0.ranged in
    let grown = ap reverse c.in_ok-push.ensures.items ∙ reverse-append s.path.items (o ∷ []) in
    subst (λ (os : List Open). IsSearchedBy rows s.is_seen.items os s.order.items) (sym grown)
    (advanced rows s.is_seen.items c.args.top (reverse s.path.items) s.order.items c.first_new-next.result c.requires
    (passed_there s.is_seen.items c.deref-2.result.now names c.deref.result.now c.args.top.next c.first_new-next.result c.deref-2.ensures.value (c.deref.ensures.value ∙ sym same) c.first_new-next.ensures.passed))

pub enter-requires-clause-named : goal.enter-requires-clause-named
enter-requires-clause-named c =
    let s = c.args.self.now in
    let rows = lists_of c.args.rows.now in
    let o : Open = record { number = c.args.top.number; next = c.first_new-next.result } in
    let same = row_is c.args.rows.now c.args.top.number c.index-rows-top.result c.index-rows-top.is c.requires.gone.0.ranged in
    let grown = ap reverse c.in_ok-push.ensures.items ∙ reverse-append s.path.items (o ∷ []) in
    subst (λ (os : List Open). IsNamedLast rows c.index.result.now os) (sym grown)
    (in_there (row rows c.args.top.number) c.index-rows-top.result.items c.first_new-next.result c.index.result.now same c.index.ensures
    (let k = c.if-next-len.true in let l = c.len.ensures in let m = c.deref.ensures.len in
    let v : length c.index-rows-top.result.items ≡ length c.deref.result.now = ap (λ (xs : List ℕ). length xs) (sym c.deref.ensures.value) in
    omega (arith, k, l, m, v)))

pub returns-in_ok-push-2-clause-searched : goal.returns-in_ok-push-2-clause-searched
returns-in_ok-push-2-clause-searched c =
    let s = c.args.self.now in
    let rows = lists_of c.args.rows.now in
    let names = row rows c.args.top.number in
    let same = row_is c.args.rows.now c.args.top.number c.index-rows-top.result c.index-rows-top.is c.requires.gone.0.ranged in
    subst (λ (xs : List ℕ). IsSearchedBy rows s.is_seen.items (reverse s.path.items) xs) (sym c.in_ok-push-2.ensures.items)
    (left rows s.is_seen.items c.args.top (reverse s.path.items) s.order.items c.requires
    (passed_there s.is_seen.items c.deref-2.result.now names c.deref.result.now c.args.top.next (length names) c.deref-2.ensures.value (c.deref.ensures.value ∙ sym same)
    (subst (λ (k : ℕ). IsPassed c.deref-2.result.now c.deref.result.now c.args.top.next k) (ap (λ (xs : List ℕ). length xs) (c.deref.ensures.value ∙ sym same))
    (c.first_new-next.ensures.ended (let k = c.if-next-len.false in let l = c.len.ensures in let m = c.deref.ensures.len in omega (arith, k, l, m))))))
