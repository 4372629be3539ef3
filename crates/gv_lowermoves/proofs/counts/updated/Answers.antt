use Rattle.std.proofs.Common.{ap, ◌∙◌}
use Rattle.gv_lang.specs.Plain.{expr_of}
use Rattle.gv_lang.specs.Tree as lang
use Rattle.gv_lowering.specs.Operands as lower
use Rattle.gv_lowermoves.proofs.counts.updated.Goals as goal

pub returns : goal.returns
returns g c = λ old r h.
    c.in_ok-new.ensures old (record { before = r.cmds; temps = r.temps; last = lower.operated c.args.sign (expr_of c.args.before) r.value })
    (record { behind = h.behind; last = c.in_ok-last.ensures ∙ ap (λ (x : lang.Expr). lower.operated c.args.sign (expr_of c.args.before) x) h.value })
