-- What the language of scripts owes to have its reader.
use Rattle.std.proofs.Common.{◌≡◌, ℕ, List, refl}
use Rattle.gv_grammar.specs.Building.{act_of}
use Rattle.gv_grammar.proofs.Whole.{Laws}
use Rattle.gv_termread.specs.declared.generated.term_acts.Part.{Part}
use Rattle.gv_termread.specs.declared.generated.term_acts.Part.TheVariants.{Token as PToken, Other as POther}
use Rattle.gv_termread.specs.declared.token.SeenToken.{SeenToken}
use Rattle.gv_scriptsyntax.specs.declared.generated.script_table.TheConstants.{NAME_TEXT}
use Rattle.gv_scriptsyntax.specs.declared.generated.script_acts.ScriptPart.{ScriptPart}
use Rattle.gv_scriptsyntax.specs.declared.generated.script_acts.ScriptPart.TheVariants.{Script as PScript}
use Rattle.gv_scriptsyntax.specs.declared.tree.Script.{Script}
use Rattle.gv_scriptsyntax.specs.ScriptTable.{script_tables}
use Rattle.gv_scriptsyntax.specs.ScriptActs.{script_acts}
use Rattle.gv_scriptsyntax.specs.Language.{IsScript}
use Rattle.gv_scriptsyntax.proofs.ScriptPredictive.{script_predictive}
use Rattle.gv_scriptparse.proofs.Forward.{whole_script}
use Rattle.gv_scriptparse.proofs.Backward.{script_means}

-- the part of a whole script
abbrev pub whole : Script → Part ScriptPart
whole tree = POther (PScript tree)

one_script : (a b : Script) → whole a ≡ whole b → a ≡ b
one_script a b e = cc

pub script_laws : (text : List ℕ) → Laws script_tables NAME_TEXT (λ (token : SeenToken). token.class) PToken (act_of (script_acts text)) (IsScript text) whole
script_laws text = record {
  may_begin = (script_predictive, refl);
  token_for = λ class _. (record { class = class; start = 0; end = 0; value = 0 }, refl);
  one_tree = one_script;
  reads = whole_script text;
  means = script_means text;
}
