-- Made by tools/grammar.py from sample.grammar: edit that.
use Rattle.std.proofs.Common.{arith, reverse}
use Rattle.gv_grammar.proofs.Building.{accepted_within}
use Rattle.grammar_sample.specs.SampleActs.{sample_acts}
use Rattle.grammar_sample.proofs.generated.sample_acts.make.Goals as goal

pub unreachable-requires : goal.unreachable-requires
unreachable-requires c =
    let within = accepted_within sample_acts c.args.act (reverse c.args.parts.now.items) c.requires.accepted in
    let behind = c.requires.behind_marks in
    omega (arith, within, behind)
