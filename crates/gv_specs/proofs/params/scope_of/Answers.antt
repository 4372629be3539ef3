use Rattle.std.proofs.Common.{◌<◌, List, [], length, sym, ap, ◌∙◌, arith}
use Rattle.gv_terms.specs.declared.var.Var.{Var}
use Rattle.gv_specs.specs.Names.{with_var}
use Rattle.gv_specs.proofs.Growing.{more_vars}
use Rattle.gv_specs.proofs.params.scope_of.Goals as goal

pub loop-param-preserved : goal.loop-param-preserved
loop-param-preserved c =
    let params = c.args.params.now in
    let i = c.loop-param.param-index in
    let lt : i < length params = omega arith in
    c.in_ok-add_new.ensures.added ∙ ap (λ (vs : List Var). with_var vs c.param-item.result) c.loop-param.invariant ∙ sym (more_vars [] params i c.param-item.result lt c.param-item.is)
