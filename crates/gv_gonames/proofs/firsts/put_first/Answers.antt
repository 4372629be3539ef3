use Rattle.std.proofs.Common.{◌≡◌, ℕ, refl, sym, ap, ◌∙◌, List, None}
use Rattle.std.specs.Str.{bytes_eq}
use Rattle.gv_gonames.specs.Firsts.{or_first, value_at}
use Rattle.gv_gonames.proofs.Lookups.{at, put_entry, none_of}
use Rattle.gv_gonames.proofs.firsts.put_first.Goals as goal

pub returns-clause-put : goal.returns-clause-put
returns-clause-put g c n =
    let items : c.in_ok-key.key.items ≡ c.args.name.now = c.in_ok-key.ensures.items in
    let absent : at c.args.table.now.entries c.in_ok-key.key.items ≡ None = ap (at c.args.table.now.entries) items ∙ none_of _ (sym c.contains_key.ensures ∙ c.if-contains_key.false) in
    ap (λ es. at es n) c.in_ok-insert.ensures.entries
    ∙ put_entry _ (λ a b. refl) c.args.table.now.entries c.in_ok-key.key c.args.value n absent
    ∙ ap (λ (m : List ℕ). or_first (value_at c.args.table.now n) (bytes_eq n m) c.args.value) items
