use Rattle.gv_specs.proofs.Firsts.{want_holds, want_fails}
use Rattle.gv_specs.proofs.told.want.Goals as goal

pub returns-then-holds : goal.returns-then-holds
returns-then-holds c = want_holds c.args.holds c.args.start c.args.code c.args.first.now c.if-holds.true

pub returns : goal.returns
returns c = want_fails c.args.holds c.args.start c.args.code c.args.first.now c.note.new.first c.if-holds.false c.note.ensures
