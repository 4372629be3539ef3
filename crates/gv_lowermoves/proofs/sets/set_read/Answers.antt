use Rattle.std.proofs.Common.{List, ℕ, ap, ◌∙◌}
use Rattle.gv_lang.specs.Tree as lang
use Rattle.gv_lowering.specs.Statements as lower
use Rattle.gv_lowerops.specs.Tails.{read_by}
use Rattle.gv_lowermoves.proofs.Setting.{one_set}
use Rattle.gv_lowermoves.proofs.sets.set_read.Goals as goal

pub returns : goal.returns
returns g c = λ k.
    one_set (g.P.Places.context c.args.places.now) c.args.place c.args.draft c.in_ok-new.new c.args.targets.now c.in_ok-made.made c.into_command-cmd.result
    (λ (xs : List ℕ). read_by c.args.reading (lower.first_of xs)) c.in_ok-made.ensures
    (c.into_command-cmd.ensures ∙ ap (λ (x : ℕ). lang.Do (read_by c.args.reading x) c.args.place) c.first-x.ensures)
    c.in_ok-new.ensures.cmds c.in_ok-new.ensures.temps
