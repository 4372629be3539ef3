use Rattle.std.proofs.Common.{ap, ◌∙◌}
use Rattle.gv_terms.specs.Scopes.{sort_under}
use Rattle.gv_terms.proofs.ScopeLookups.{looked_up}
use Rattle.gv_terms.proofs.scope.Scope.sort_of.Goals as goal

pub returns : goal.returns
returns c =
    c.copied.ensures ∙ c.get.ensures.value ∙ looked_up c.args.name.now c.self.inside.sorts.entries ∙ ap (λ vs. sort_under vs c.args.name.now) c.self.view_is
