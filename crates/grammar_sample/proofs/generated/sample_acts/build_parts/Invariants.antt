-- Made by tools/grammar.py from sample.grammar: edit that.
use Rattle.std.proofs.Common.{◌≡◌, [], drop, reverse}
use Rattle.gv_grammar.specs.Building.{act_of, run}
use Rattle.grammar_sample.specs.SampleActs.{sample_acts}
use Rattle.grammar_sample.specs.declared.generated.sample_acts.Part.TheVariants.{Token as PToken}
use Rattle.grammar_sample.proofs.generated.sample_acts.build_parts.Given as goal

-- the steps that are left make of the rest what all steps make of all tokens
abbrev pub invariant-loop-step : goal.invariant-loop-step
invariant-loop-step l =
    run PToken (act_of sample_acts) (drop l.step-index l.steps) l.rest (reverse l.parts.items) ≡ run PToken (act_of sample_acts) l.steps l.fn.tokens []
