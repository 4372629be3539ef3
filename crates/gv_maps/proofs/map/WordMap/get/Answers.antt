use Rattle.std.proofs.Common.{Some, sym, ap, ◌∙◌, subst}
use Rattle.gv_words.specs.Entries.{FitsAt, HoldsAt}
use Rattle.gv_words.specs.Maps.{entry_at}
use Rattle.gv_words.proofs.Placed.{entry_new, entry_old}
use Rattle.gv_maps.proofs.map.WordMap.get.Goals as goal

pub returns-in-Ok : goal.returns-in-Ok
returns-in-Ok c =
    let m = c.self.inside.entries.items in
    let holds = subst (λ l. HoldsAt l c.args.key c.in-Ok.place) c.as_slice.ensures.value c.in-Ok.ensures.found in
    ap (λ e. Some e.1) c.index.ensures ∙ sym (entry_old m c.args.key c.in-Ok.place c.index.result.now holds) ∙ ap (λ l. entry_at l c.args.key) c.self.view_is

pub returns-in-Err : goal.returns-in-Err
returns-in-Err c =
    let m = c.self.inside.entries.items in
    let fits = subst (λ l. FitsAt l c.args.key c.in-Err.field-0) c.as_slice.ensures.value c.in-Err.ensures.absent in
    sym (entry_new m c.args.key c.in-Err.field-0 fits) ∙ ap (λ l. entry_at l c.args.key) c.self.view_is
