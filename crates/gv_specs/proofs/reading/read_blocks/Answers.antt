use Rattle.gv_base.specs.declared.answers.Code.TheVariants as code
use Rattle.gv_specs.specs.Told.{IsFaultUnless, this_unless}
use Rattle.gv_specs.proofs.Firsts.{untold}
use Rattle.gv_specs.proofs.reading.read_blocks.Goals as goal

pub returns-else-right-clause-read : goal.returns-else-right-clause-read
returns-else-right-clause-read c = λ e.
    let right = c.if-number-gt0.right in
    let start = c.args.number.start in
    absurd (untold (IsFaultUnless right start code.TooMany) c.args.first.now c.want.new.first c.want.ensures e start code.TooMany (this_unless c.if-right.false))
