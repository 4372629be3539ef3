use Rattle.std.proofs.Common.{◌≡◌, true, sym, ap, ◌∙◌, subst}
use Rattle.gv_words.specs.Entries.{FitsAt, HoldsAt}
use Rattle.gv_words.specs.Maps.{ascends, with_entry}
use Rattle.gv_words.proofs.Ascending.{with_ascends}
use Rattle.gv_words.proofs.Placed.{with_new, with_old}
use Rattle.gv_maps.proofs.map.WordMap.put.Goals as goal

pub returns-in-Ok-clause-ok : goal.returns-in-Ok-clause-ok
returns-in-Ok-clause-ok c =
    let m = c.self.inside.entries.items in
    let holds = subst (λ l. HoldsAt l c.args.key c.in-Ok.place) c.as_slice.ensures.value c.in-Ok.ensures.found in
    sym (with_old m c.args.key c.args.item c.in-Ok.place holds) ∙ ap (λ l. with_entry l c.args.key c.args.item) c.self.view_is

pub invariant_of-self : goal.invariant_of-self
invariant_of-self c =
    subst (λ l. ascends l ≡ true) (sym (returns-in-Ok-clause-ok c))
    (with_ascends c.args.self.now c.args.key c.args.item (subst (λ l. ascends l ≡ true) c.self.view_is c.self.invariant))

pub returns-in_ok-insert-in-Err-clause-ok : goal.returns-in_ok-insert-in-Err-clause-ok
returns-in_ok-insert-in-Err-clause-ok c =
    let m = c.self.inside.entries.items in
    let fits = subst (λ l. FitsAt l c.args.key c.in-Err.place) c.as_slice.ensures.value c.in-Err.ensures.absent in
    c.in_ok-insert-in-Err.ensures.items ∙ sym (with_new m c.args.key c.args.item c.in-Err.place fits) ∙ ap (λ l. with_entry l c.args.key c.args.item) c.self.view_is

pub invariant_of-self-in-Continue-1 : goal.invariant_of-self-in-Continue-1
invariant_of-self-in-Continue-1 c =
    subst (λ l. ascends l ≡ true) (sym (returns-in_ok-insert-in-Err-clause-ok c))
    (with_ascends c.args.self.now c.args.key c.args.item (subst (λ l. ascends l ≡ true) c.self.view_is c.self.invariant))
