-- What the language of specifications owes to have its reader.
use Rattle.std.proofs.Common.{◌≡◌, ℕ, List, refl}
use Rattle.gv_grammar.specs.Building.{act_of}
use Rattle.gv_grammar.proofs.Whole.{Laws}
use Rattle.gv_termread.specs.declared.generated.term_acts.Part.{Part}
use Rattle.gv_termread.specs.declared.generated.term_acts.Part.TheVariants.{Token as PToken, Other as POther}
use Rattle.gv_termread.specs.declared.token.SeenToken.{SeenToken}
use Rattle.gv_specread.specs.declared.generated.spec_table.TheConstants.{NAME_TEXT}
use Rattle.gv_specread.specs.declared.generated.spec_acts.SpecPart.{SpecPart}
use Rattle.gv_specread.specs.declared.generated.spec_acts.SpecPart.TheVariants.{Spec as PSpec}
use Rattle.gv_specread.specs.declared.tree.SpecTree.{SpecTree}
use Rattle.gv_specread.specs.SpecTable.{spec_tables}
use Rattle.gv_specread.specs.SpecActs.{spec_acts}
use Rattle.gv_specread.specs.Language.{IsSpec}
use Rattle.gv_specread.proofs.SpecPredictive.{spec_predictive}
use Rattle.gv_specread.proofs.Forward.{whole_reads}
use Rattle.gv_specread.proofs.Backward.{whole_means}

-- the part of a whole specification
abbrev pub whole : SpecTree → Part SpecPart
whole tree = POther (PSpec tree)

one_spec : (a b : SpecTree) → whole a ≡ whole b → a ≡ b
one_spec a b e = cc

pub spec_laws : (text : List ℕ) → Laws spec_tables NAME_TEXT (λ (token : SeenToken). token.class) PToken (act_of (spec_acts text)) (IsSpec text) whole
spec_laws text = record {
  may_begin = (spec_predictive, refl);
  token_for = λ class _. (record { class = class; start = 0; end = 0; value = 0 }, refl);
  one_tree = one_spec;
  reads = whole_reads text;
  means = whole_means text;
}
