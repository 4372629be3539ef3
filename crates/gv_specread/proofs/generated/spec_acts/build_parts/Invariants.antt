-- Made by tools/grammar.py from spec.grammar: edit that.
use Rattle.std.proofs.Common.{◌≡◌, [], drop, reverse}
use Rattle.gv_grammar.specs.Building.{act_of, run}
use Rattle.gv_specread.specs.SpecActs.{spec_acts}
use Rattle.gv_termread.specs.declared.generated.term_acts.Part.TheVariants.{Token as PToken}
use Rattle.gv_specread.proofs.generated.spec_acts.build_parts.Given as goal

-- the steps that are left make of the rest what all steps make of all tokens
abbrev pub invariant-loop-step : goal.invariant-loop-step
invariant-loop-step l =
    run PToken (act_of (spec_acts l.text)) (drop l.step-index l.steps) l.rest (reverse l.parts.items) ≡ run PToken (act_of (spec_acts l.text)) l.steps l.fn.tokens []
