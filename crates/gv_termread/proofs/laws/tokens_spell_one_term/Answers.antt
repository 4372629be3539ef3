use Rattle.gv_grammar.specs.Building.{act_of}
use Rattle.gv_grammar.proofs.Whole.{at_most_one}
use Rattle.gv_termread.specs.declared.generated.term_table.TheConstants.{NAME_WHOLE}
use Rattle.gv_termread.specs.declared.generated.term_acts.Part.TheVariants.{Token as PToken}
use Rattle.gv_termread.specs.declared.generated.term_acts.NoOther.{NoOther}
use Rattle.gv_termread.specs.declared.reading.TheConstants.{MAX_LEVELS}
use Rattle.gv_termread.specs.declared.token.SeenToken.{SeenToken}
use Rattle.gv_termread.specs.TermTable.{term_tables}
use Rattle.gv_termread.specs.TermActs.{term_acts}
use Rattle.gv_termread.specs.Language.{IsTerm}
use Rattle.gv_termread.specs.Reading.{alone}
use Rattle.gv_termread.proofs.Top.{whole, term_laws}
use Rattle.gv_termread.proofs.laws.tokens_spell_one_term.Goals as goal

pub returns : goal.returns
returns c =
    λ text level tokens a b s t. at_most_one term_tables NAME_WHOLE (λ (token : SeenToken). token.class) PToken (act_of (term_acts {O = NoOther} text)) (IsTerm (alone text)) whole (term_laws text) level MAX_LEVELS a b tokens s t
