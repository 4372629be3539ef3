use Rattle.std.proofs.Common.{◌∙◌}
use Rattle.gv_gotypes.specs.Trees.{expr_of}
use Rattle.gv_gosimple.proofs.SideLemmas.{blank_name, no_blank}
use Rattle.gv_gosimple.proofs.definitions.is_blank_at.Goals as goal

pub returns-in-Some : goal.returns-in-Some
returns-in-Some g c = λ e h. c.is_blank.ensures ∙ blank_name (g.N.Names.env c.args.names.now) (expr_of e) c.in-Some.name (c.in-Some.ensures e h)

pub returns-in-None : goal.returns-in-None
returns-in-None g c = λ e h. no_blank (g.N.Names.env c.args.names.now) (expr_of e) (c.in-None.ensures e h)
