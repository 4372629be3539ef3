use Rattle.std.proofs.Common.{ap, ◌∙◌}
use Rattle.gv_terms.specs.Values.{word_of}
use Rattle.gv_atomic.specs.Choices.{fits}
use Rattle.gv_spec.proofs.meaning.may_be.Goals as goal

pub returns : goal.returns
returns c = c.fits.ensures ∙ ap (fits c.args.choice) (c.word-limit.ensures ∙ ap word_of c.in_ok-eval.ensures.value)
