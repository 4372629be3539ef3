use Rattle.std.proofs.Common.{List, sym, subst, ◌∙◌}
use Rattle.gv_grammar.specs.Text.{Says}
use Rattle.gv_termread.specs.declared.reading.TheConstants.{MAX_LEVELS}
use Rattle.gv_termread.specs.declared.token.SeenToken.{SeenToken}
use Rattle.gv_scriptsyntax.specs.Language.{IsScript}
use Rattle.gv_scriptparse.proofs.reading.read_or_refused.Goals as goal

pub refusal_of-requires-clause-says : goal.refusal_of-requires-clause-says
refusal_of-requires-clause-says c =
    subst (λ (ts : List SeenToken). Says (IsScript c.args.text.now 0) MAX_LEVELS ts c.in-Err.fault) (c.deref.ensures.value ∙ sym c.deref-in-Err.ensures.value) c.in-Err.ensures.fault
