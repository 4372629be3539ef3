use Rattle.gv_lines.proofs.MoveLemmas.{choices_next}
use Rattle.gv_lines.proofs.moves.push_choices.Goals as goal

pub loop-choice-preserved : goal.loop-choice-preserved
loop-choice-preserved c =
    choices_next c.args.out.now.items c.loop-choice.out.items c.push_word.new.out.items c.args.choices.now c.loop-choice.choice-index 0
    c.loop-choice-test.true c.loop-choice.invariant c.in_ok-push_word.ensures
