-- Case nodes by the acts that make them. Made by tools/script_nodes.py from script.grammar: edit that.
use Rattle.std.proofs.Common.{◌≡◌, ℕ, true, List, [], ◌∷◌, Some, ap, ◌∙◌}
use Rattle.std.specs.Prelude.{drop, take}
use Rattle.gv_grammar.specs.Building.{has_tops}
use Rattle.gv_termread.specs.declared.generated.term_acts.Part.TheVariants.{Token as PToken, Other as POther}
use Rattle.gv_scriptsyntax.specs.declared.generated.script_acts.ScriptPart.TheVariants.{Case as PCase, Items as PItems, Pars as PPars}
use Rattle.gv_scriptsyntax.specs.declared.tree.Case.{Case}
use Rattle.gv_scriptsyntax.specs.declared.tree.Item.{Item}
use Rattle.gv_scriptsyntax.specs.declared.tree.Par.{Par}
use Rattle.gv_termread.specs.declared.token.SeenToken.{SeenToken}
use Rattle.gv_scriptsyntax.specs.declared.node.Node.{Node}
use Rattle.gv_scriptsyntax.specs.declared.node.Node.TheVariants.{Made}
use Rattle.gv_scriptsyntax.specs.declared.generated.script_table.TheConstants as act
use Rattle.gv_termread.specs.TermActs.{is_token}
use Rattle.gv_scriptsyntax.specs.ScriptActs.{is_items, is_pars, made_case}
use Rattle.gv_scriptsyntax.specs.Nodes.{Parts, built, IsPartAt}
use Rattle.gv_scriptnodes.specs.Places.{IsChild}
use Rattle.gv_scriptnodes.proofs.Opened.{opened}
use Rattle.gv_scriptnodes.proofs.Tops.{accepted, top_items, top_pars, top_token}
use Rattle.gv_certnodes.specs.Places.{IsMadeBy}
use Rattle.gv_declnodes.specs.Case.{IsCase}
use Rattle.gv_certnodes.proofs.Opened.{at_part, same_act}

case_end : (text : List ℕ) (nodes : List Node) (at : ℕ) (at_vars : ℕ) (at_items : ℕ) → IsChild text nodes at 1 at_vars → IsChild text nodes at 0 at_items
    → (whole : Case) (parts rest : Parts) (items : List Item) (vars : List Par) (passed_0 : SeenToken) (behind : Parts) → built text (take at nodes) ≡ Some parts → parts ≡ POther (PItems items) ∷ POther (PPars vars) ∷ PToken passed_0 ∷ behind
    → POther (PCase whole) ∷ rest ≡ POther (PCase (made_case parts)) ∷ drop 3 parts → IsCase text nodes at at_vars at_items whole
case_end text nodes at at_vars at_items known_vars known_items whole parts rest items vars passed_0 behind before shape q =
    let made : whole ≡ made_case parts = cc in
    record {
      of_vars = vars;
      of_items = items;
      at_vars = at_part text nodes at 1 at_vars parts (PToken passed_0 ∷ behind) (POther (PPars vars)) known_vars before (ap (λ (ps : Parts). drop 1 ps) shape);
      at_items = at_part text nodes at 0 at_items parts (POther (PPars vars) ∷ PToken passed_0 ∷ behind) (POther (PItems items)) known_items before (ap (λ (ps : Parts). drop 0 ps) shape);
      made = made ∙ ap (λ (ps : Parts). made_case ps) shape;
    }

pub case_is : (text : List ℕ) (nodes : List Node) (at : ℕ) (at_vars : ℕ) (at_items : ℕ) → IsMadeBy nodes at act.ACT_CASE → IsChild text nodes at 1 at_vars → IsChild text nodes at 0 at_items
    → (whole : Case) → IsPartAt text nodes at (POther (PCase whole)) → IsCase text nodes at at_vars at_items whole
case_is text nodes at at_vars at_items by known_vars known_items whole is =
    let o = opened text nodes at (Made by.raw by.from) (POther (PCase whole)) by.node is in
    let a = accepted text act.ACT_CASE o.parts (POther (PCase whole) ∷ o.rest) (same_act text by.raw act.ACT_CASE o.parts by.number ∙ o.done) in
    go o.parts o.rest o.before a.0 a.1
  where
    go : (parts rest : Parts) → built text (take at nodes) ≡ Some parts → has_tops (is_items ∷ is_pars ∷ is_token ∷ []) parts ≡ true → POther (PCase whole) ∷ rest ≡ POther (PCase (made_case parts)) ∷ drop 3 parts → IsCase text nodes at at_vars at_items whole
    go parts rest before h q =
        top_items (is_pars ∷ is_token ∷ []) parts h (λ x0 r0 e0 h0.
        top_pars (is_token ∷ []) r0 h0 (λ x1 r1 e1 h1.
        top_token ([]) r1 h1 (λ x2 r2 e2 h2.
        case_end text nodes at at_vars at_items known_vars known_items whole parts rest x0 x1 x2 r2 before (e0 ∙ ap (λ (ps : Parts). POther (PItems x0) ∷ ps) (e1 ∙ ap (λ (ps : Parts). POther (PPars x1) ∷ ps) e2)) q)))
