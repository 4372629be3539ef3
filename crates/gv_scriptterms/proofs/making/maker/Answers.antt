use Rattle.std.proofs.Common.{◌≡◌, ◌∷◌, [], List, reverse, refl, ap}
use Rattle.gv_grammar.specs.Building.{made_by}
use Rattle.gv_termread.specs.declared.generated.term_acts.Part.{Part}
use Rattle.gv_termread.specs.declared.generated.term_acts.Part.TheVariants.{Term as PTerm}
use Rattle.gv_termread.specs.declared.generated.term_acts.NoOther.{NoOther}
use Rattle.gv_termread.specs.declared.generated.term_table.TheConstants.{ACT_MAKER}
use Rattle.gv_termread.specs.declared.placed.PlacedTerm.{PlacedTerm}
use Rattle.gv_termread.specs.TermActs.{term_acts}
use Rattle.gv_termread.specs.Trees as spec
use Rattle.gv_scriptterms.proofs.Results.{if_ok}
use Rattle.gv_scriptterms.proofs.making.maker.Goals as goal

pub returns : goal.returns
returns c =
    let whole = spec.maker c.args.name c.args.count c.args.item in
    if_ok c.made.result (λ t. (u : PlacedTerm) (rest : List (Part NoOther)) → made_by (term_acts c.args.text.now) ACT_MAKER (reverse c.in_ok-parts.parts.items) ≡ PTerm u ∷ rest → t ≡ u) (λ t. t ≡ whole) c.made.ensures
    (λ t same. same whole [] (ap (λ (ps : List (Part NoOther)). made_by (term_acts c.args.text.now) ACT_MAKER (reverse ps)) c.in_ok-parts.ensures.items))
