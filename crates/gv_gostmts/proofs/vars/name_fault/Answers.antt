use Rattle.std.proofs.Common.{sym, ◌∙◌}
use Rattle.gv_gotypes.specs.Scopes.{name_in, is_blank, is_here}
use Rattle.gv_gostmts.proofs.BlockLemmas.{blank_told, here_told, free_told}
use Rattle.gv_gostmts.proofs.vars.name_fault.Goals as goal

pub returns-then-is_blank : goal.returns-then-is_blank
returns-then-is_blank g c =
    let env = g.N.Names.env c.args.names.now in let name = name_in env.source c.args.name in
    blank_told (is_blank name) (is_here env.entries name) c.args.name.start (sym c.is_blank.ensures ∙ c.if-is_blank.true)

pub returns-then-is_here : goal.returns-then-is_here
returns-then-is_here g c =
    let env = g.N.Names.env c.args.names.now in let name = name_in env.source c.args.name in
    here_told (is_blank name) (is_here env.entries name) c.args.name.start (sym c.is_blank.ensures ∙ c.if-is_blank.false) (sym c.is_here.ensures ∙ c.if-is_here.true)

pub returns-else-is_here : goal.returns-else-is_here
returns-else-is_here g c =
    let env = g.N.Names.env c.args.names.now in let name = name_in env.source c.args.name in
    free_told (is_blank name) (is_here env.entries name) c.args.name.start (sym c.is_here.ensures ∙ c.if-is_here.false)
