use Rattle.std.proofs.Common.{length, ap, ◌∙◌}
use Rattle.gv_gotypes.specs.Trees.{expr_of}
use Rattle.gv_gosimple.proofs.Results.{as_many, lone_value}
use Rattle.gv_gosimple.proofs.rights.value_fault.Goals as goal

pub returns-in-Some : goal.returns-in-Some
returns-in-Some g c = λ e ts h w.
    c.placed_at.ensures e h ∙ lone_value (g.N.Names.env c.args.names.now) ts c.args.wants.now c.in-Some.want c.args.statement (expr_of e) c.in-Some.ensures w

pub returns-in-None : goal.returns-in-None
returns-in-None g c = λ e ts h w. c.several_fault.ensures e ts h w (λ q. c.in-None.ensures (ap length w ∙ as_many ts ∙ q))
