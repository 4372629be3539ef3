use Rattle.gv_gosimple.proofs.Splits.{none_left}
use Rattle.gv_lowermoves.proofs.Givens.{giving_none, giving_all}
use Rattle.gv_lowermoves.proofs.locals.given.Goals as goal

pub loop-left-init : goal.loop-left-init
loop-left-init g c = giving_none (g.P.Places.context c.args.places.now) c.args.draft c.args.targets.now c.new-locals.result.items c.new-locals.ensures.items

pub returns : goal.returns
returns g c =
    giving_all (g.P.Places.context c.args.places.now) c.args.draft c.args.targets.now c.loop-left.left.now (record { locals = c.loop-left.locals; draft = c.loop-left.draft }) c.loop-left.invariant
    (none_left c.loop-left.left.now c.in_default.len_below)
