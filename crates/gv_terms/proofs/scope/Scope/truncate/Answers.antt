use Rattle.std.proofs.Common.{ap, sym, take, ◌∙◌}
use Rattle.std.proofs.lemmas.List.{take-map}
use Rattle.gv_terms.specs.Scopes.{vars_of, var_of}
use Rattle.gv_terms.proofs.scope.Scope.truncate.Goals as goal

pub returns : goal.returns
returns c =
    ap vars_of c.truncate.ensures.entries ∙ sym (take-map var_of c.args.len c.self.inside.sorts.entries) ∙ ap (take c.args.len) c.self.view_is
