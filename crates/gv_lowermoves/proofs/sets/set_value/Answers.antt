use Rattle.std.proofs.Common.{List, ℕ, ap, ◌∙◌}
use Rattle.gv_lang.specs.Plain.{expr_of}
use Rattle.gv_lang.specs.Tree as lang
use Rattle.gv_lang.specs.declared.cmd.Cmd.TheVariants as cmd
use Rattle.gv_lang.proofs.Trees.{tree_let}
use Rattle.gv_lowering.specs.Statements as lower
use Rattle.gv_lowermoves.proofs.Setting.{one_set}
use Rattle.gv_lowermoves.proofs.sets.set_value.Goals as goal

pub returns : goal.returns
returns g c =
    one_set (g.P.Places.context c.args.places.now) c.args.place c.args.draft c.in_ok-new.new c.args.targets.now c.in_ok-made.made (cmd.Let c.first-x.result c.args.e c.args.place)
    (λ (xs : List ℕ). lang.Let (lower.first_of xs) (expr_of c.args.e)) c.in_ok-made.ensures
    (tree_let c.first-x.result c.args.e c.args.place ∙ ap (λ (x : ℕ). lang.Do (lang.Let x (expr_of c.args.e)) c.args.place) c.first-x.ensures)
    c.in_ok-new.ensures.cmds c.in_ok-new.ensures.temps
