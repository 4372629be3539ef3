use Rattle.std.proofs.Common.{List, sym, subst, ◌∙◌}
use Rattle.gv_grammar.specs.Text.{SaysOfFront}
use Rattle.gv_termread.specs.declared.reading.TheConstants.{MAX_LEVELS}
use Rattle.gv_termread.specs.declared.token.SeenToken.{SeenToken}
use Rattle.gv_termread.specs.Language.{IsTerm}
use Rattle.gv_termread.specs.Reading.{alone}
use Rattle.gv_termread.proofs.reading.placed_from.Goals as goal

pub refusal_of-requires-clause-says : goal.refusal_of-requires-clause-says
refusal_of-requires-clause-says c =
    subst (λ (ts : List SeenToken). SaysOfFront (IsTerm (alone c.args.text.now) c.args.depth) MAX_LEVELS ts c.in-Err.fault) (c.deref.ensures.value ∙ sym c.deref-in-Err.ensures.value) c.in-Err.ensures.fault
