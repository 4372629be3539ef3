use Rattle.std.proofs.Common.{sym, ap, ◌∙◌}
use Rattle.std.specs.Option.{option_or}
use Rattle.gv_terms.specs.Scopes.{sort_under}
use Rattle.gv_atomic.proofs.Vars.{under_append}
use Rattle.gv_atomic.proofs.names.sort_in.Goals as goal

pub returns-in-Some : goal.returns-in-Some
returns-in-Some c =
    let n = c.args.name.now in
    sym (under_append c.args.fields.now c.args.own.now n ∙ ap (λ o. option_or o (sort_under c.args.own.now n)) (sym c.sort_of.ensures ∙ c.in-Some.is))

pub returns-in-None : goal.returns-in-None
returns-in-None c =
    let n = c.args.name.now in
    c.sort_of-in-None.ensures ∙ sym (under_append c.args.fields.now c.args.own.now n ∙ ap (λ o. option_or o (sort_under c.args.own.now n)) (sym c.sort_of.ensures ∙ c.in-None.is))
