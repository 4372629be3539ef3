-- Made by tools/grammar.py from spec.grammar: edit that.
use Rattle.std.proofs.Common.{arith, reverse}
use Rattle.gv_grammar.proofs.Building.{accepted_within}
use Rattle.gv_specread.specs.SpecActs.{spec_acts}
use Rattle.gv_specread.proofs.generated.spec_acts.make.Goals as goal

pub unreachable-requires : goal.unreachable-requires
unreachable-requires c =
    let within = accepted_within (spec_acts c.args.text.now) c.args.act (reverse c.args.parts.now.items) c.requires.accepted in
    let behind = c.requires.behind_marks in
    omega (arith, within, behind)
