use Rattle.std.proofs.Common.{ap, ◌∙◌}
use Rattle.gv_terms.specs.Values.{word_of}
use Rattle.gv_judge.proofs.choices.limit.Goals as goal

pub returns : goal.returns
returns c = c.word.ensures ∙ ap word_of c.in_ok-bound.ensures.value
