use Rattle.std.proofs.Common.{◌≡◌, ℕ, true, is_none, List, [], ◌∷◌, ◌++◌, ap, ◌∙◌}
use Rattle.gv_terms.specs.declared.var.Var.{Var}
use Rattle.gv_terms.specs.Scopes.{sort_under}
use Rattle.gv_atomic.proofs.OneByOne.{on_true}
use Rattle.gv_specs.proofs.Scopes.{none_new}
use Rattle.gv_specs.proofs.names.add.Goals as goal

pub returns : goal.returns
returns c =
    let vars = c.args.vars.now in
    let copied = c.in_ok-copy.field-0 in
    let v : Var = record { name = copied; sort = c.args.sort } in
    let new : c.in_ok-declare.field-0 ≡ true = c.in_ok-declare.ensures.told ∙ ap (λ n. is_none (sort_under vars n)) c.in_ok-copy.ensures ∙ none_new vars c.args.name.now c.requires in
    on_true c.in_ok-declare.field-0 (c.declare.new.self ≡ vars ++ v ∷ []) c.in_ok-declare.ensures.added new
    ∙ ap (λ (n : List ℕ). let w : Var = record { name = n; sort = c.args.sort } in vars ++ w ∷ []) c.in_ok-copy.ensures
