use Rattle.std.proofs.Common.{ap, ◌∙◌}
use Rattle.gv_gotypes.specs.Kinds.{kind_of}
use Rattle.gv_gostmts.proofs.vars.kind_at.Goals as goal

pub returns : goal.returns
returns g c = λ t h. c.written_at.ensures.kind ∙ ap (kind_of (g.N.Names.env c.args.names.now)) (c.type_at.ensures t h)
