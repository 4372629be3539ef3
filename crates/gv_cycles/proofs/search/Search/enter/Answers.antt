use Rattle.std.proofs.Common.{◌∷◌, [], List, true, reverse, sym, ap, subst, ◌∙◌}
use Rattle.std.specs.Prelude.{slice_set}
use Rattle.std.proofs.lemmas.List.{reverse-append}
use Rattle.gv_cycles.specs.Leading.{lists_of}
use Rattle.gv_cycles.specs.declared.search.Open.{Open}
use Rattle.gv_cycles.specs.Search.{IsSearchedBy}
use Rattle.gv_cycles.proofs.Searches.{entered}
use Rattle.gv_cycles.proofs.search.Search.enter.Goals as goal

pub returns-clause-searched : goal.returns-clause-searched
returns-clause-searched c =
    let s = c.args.self.now in
    let o : Open = record { number = c.args.number; next = 0 } in
    let grown = ap reverse c.in_ok-push.ensures.items ∙ reverse-append s.path.items (o ∷ []) in
    subst (λ (os : List Open). IsSearchedBy (lists_of c.args.rows.now) (slice_set s.is_seen.items c.args.number true) os s.order.items) (sym grown)
    (entered (lists_of c.args.rows.now) s.is_seen.items (reverse s.path.items) s.order.items c.args.number c.requires.searched c.requires.new c.requires.named)
