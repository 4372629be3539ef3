use Rattle.std.proofs.Common.{map, sym, ◌∙◌}
use Rattle.gv_gotypes.specs.Trees.{expr_of}
use Rattle.gv_gosimple.proofs.SideLemmas.{some_new, some_old, none_there}
use Rattle.gv_gosimple.proofs.definitions.nothing_new_at.Goals as goal

pub returns-then-fresh : goal.returns-then-fresh
returns-then-fresh g c = λ es h f. some_new (g.N.Names.env c.args.names.now) (map expr_of es) (sym f ∙ c.if-fresh.true)

pub returns-then-some_is_old : goal.returns-then-some_is_old
returns-then-some_is_old g c = λ es h f. some_old (g.N.Names.env c.args.names.now) (map expr_of es) (sym f ∙ c.if-fresh.false) (sym (c.some_is_old.ensures es h) ∙ c.if-some_is_old.true)

pub returns : goal.returns
returns g c = λ es h f.
    c.first_blank_at.ensures es h
    ∙ none_there (g.N.Names.env c.args.names.now) (map expr_of es) (sym f ∙ c.if-fresh.false) (sym (c.some_is_old.ensures es h) ∙ c.if-some_is_old.false)
