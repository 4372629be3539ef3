use Rattle.std.proofs.Common.{◌≡◌, [], take}
use Rattle.gv_specs.specs.Names.{with_vars}
use Rattle.gv_specs.proofs.params.scope_of.Given as goal

abbrev pub invariant-loop-param : goal.invariant-loop-param
invariant-loop-param l = l.vars ≡ with_vars [] (take l.param-index l.params)
