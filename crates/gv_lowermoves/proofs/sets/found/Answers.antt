use Rattle.std.proofs.Common.{List, ℕ, ap, ◌∙◌}
use Rattle.gv_lang.specs.Plain.{expr_of}
use Rattle.gv_lang.specs.Tree as lang
use Rattle.gv_lang.specs.declared.cmd.Cmd.TheVariants as cmd
use Rattle.gv_lang.proofs.Trees.{tree_map_get}
use Rattle.gv_lowering.specs.Statements as lower
use Rattle.gv_lowermoves.proofs.Setting.{one_set}
use Rattle.gv_lowermoves.proofs.sets.found.Goals as goal

pub returns : goal.returns
returns c = λ d old ts h.
    let m = expr_of c.args.m in
    let k = expr_of c.args.k in
    let at = c.args.place in
    one_set d at old c.in_ok-new.new ts c.args.made (cmd.MapGet c.first-x.result c.second-ok.result c.args.m c.args.k at)
    (λ (xs : List ℕ). lang.MapGet (lower.first_of xs) (lower.second_of xs) m k) h
    (tree_map_get c.first-x.result c.second-ok.result c.args.m c.args.k at
    ∙ (ap (λ (x : ℕ). lang.Do (lang.MapGet x c.second-ok.result m k) at) c.first-x.ensures
    ∙ ap (λ (x : ℕ). lang.Do (lang.MapGet (lower.first_of c.args.made.locals.items) x m k) at) c.second-ok.ensures))
    c.in_ok-new.ensures.cmds c.in_ok-new.ensures.temps
