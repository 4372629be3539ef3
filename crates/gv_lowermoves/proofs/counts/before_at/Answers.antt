use Rattle.std.proofs.Common.{None, length}
use Rattle.gv_gotypes.specs.Trees.{expr_of}
use Rattle.gv_lowering.specs.Operands as lower
use Rattle.gv_lowerops.proofs.Behind.{behind_none}
use Rattle.gv_lowermoves.proofs.counts.before_at.Goals as goal

pub returns : goal.returns
returns g c = λ e h.
    let r = lower.read (g.P.Places.context c.args.places.now) c.args.place (g.N.Names.env c.args.names.now) (expr_of e) None (length c.args.draft.temps.items) in
    let k = c.in_ok-made.ensures e h in
    record {
      behind = behind_none c.args.draft c.in_ok-made.made.read.draft c.back_to.result c.mark-mark.result r.cmds r.temps
          (record { cmds = c.mark-mark.ensures.cmds; temps = c.mark-mark.ensures.temps }) k.read.behind c.back_to.ensures.cmds c.back_to.ensures.temps;
      value = k.read.value;
    }
