-- Inst nodes by the acts that make them. Made by tools/script_nodes.py from script.grammar: edit that.
use Rattle.std.proofs.Common.{◌≡◌, ℕ, true, List, [], ◌∷◌, Some, sym, ap, ◌∙◌}
use Rattle.std.specs.Prelude.{drop, take}
use Rattle.gv_grammar.specs.Building.{has_tops}
use Rattle.gv_termread.specs.declared.generated.term_acts.Part.TheVariants.{Token as PToken, Other as POther}
use Rattle.gv_scriptsyntax.specs.declared.generated.script_acts.ScriptPart.TheVariants.{Inst as PInst, Terms as PTerms}
use Rattle.gv_scriptsyntax.specs.declared.tree.Inst.{Inst}
use Rattle.gv_termread.specs.declared.placed.PlacedTerm.{PlacedTerm}
use Rattle.gv_termread.specs.declared.token.SeenToken.{SeenToken}
use Rattle.gv_scriptsyntax.specs.declared.node.Node.{Node}
use Rattle.gv_scriptsyntax.specs.declared.node.Node.TheVariants.{Made}
use Rattle.gv_scriptsyntax.specs.declared.generated.script_table.TheConstants as act
use Rattle.gv_termread.specs.TermActs.{is_token}
use Rattle.gv_scriptsyntax.specs.ScriptActs.{is_terms, made_inst}
use Rattle.gv_scriptsyntax.specs.Nodes.{Parts, built, IsPartAt}
use Rattle.gv_scriptnodes.specs.Places.{IsChild, IsTokenOf}
use Rattle.gv_scriptnodes.proofs.Opened.{opened}
use Rattle.gv_scriptnodes.proofs.Tops.{accepted, top_terms, top_token}
use Rattle.gv_certnodes.specs.Places.{IsMadeBy}
use Rattle.gv_commandnodes.specs.Inst.{IsInst}
use Rattle.gv_certnodes.proofs.Opened.{at_part, same_act}

inst_end : (text : List ℕ) (nodes : List Node) (at : ℕ) (at_name : SeenToken) (at_terms : ℕ) → IsTokenOf text nodes at 1 at_name → IsChild text nodes at 0 at_terms
    → (whole : Inst) (parts rest : Parts) (terms : List PlacedTerm) (name : SeenToken) (behind : Parts) → built text (take at nodes) ≡ Some parts → parts ≡ POther (PTerms terms) ∷ PToken name ∷ behind
    → POther (PInst whole) ∷ rest ≡ POther (PInst (made_inst parts)) ∷ drop 2 parts → IsInst text nodes at at_name at_terms whole
inst_end text nodes at at_name at_terms known_name known_terms whole parts rest terms name behind before shape q =
    let made : whole ≡ made_inst parts = cc in
    record {
      of_terms = terms;
      at_terms = at_part text nodes at 0 at_terms parts (PToken name ∷ behind) (POther (PTerms terms)) known_terms before (ap (λ (ps : Parts). drop 0 ps) shape);
      made = made ∙ ap (λ (ps : Parts). made_inst ps) shape
          ∙ ap (λ (x : SeenToken). let y : Inst = (record { name = x; terms = terms }) in y) (sym (known_name.same parts (behind) name before (ap (λ (ps : Parts). drop 1 ps) shape)));
    }

pub inst_is : (text : List ℕ) (nodes : List Node) (at : ℕ) (at_name : SeenToken) (at_terms : ℕ) → IsMadeBy nodes at act.ACT_INST → IsTokenOf text nodes at 1 at_name → IsChild text nodes at 0 at_terms
    → (whole : Inst) → IsPartAt text nodes at (POther (PInst whole)) → IsInst text nodes at at_name at_terms whole
inst_is text nodes at at_name at_terms by known_name known_terms whole is =
    let o = opened text nodes at (Made by.raw by.from) (POther (PInst whole)) by.node is in
    let a = accepted text act.ACT_INST o.parts (POther (PInst whole) ∷ o.rest) (same_act text by.raw act.ACT_INST o.parts by.number ∙ o.done) in
    go o.parts o.rest o.before a.0 a.1
  where
    go : (parts rest : Parts) → built text (take at nodes) ≡ Some parts → has_tops (is_terms ∷ is_token ∷ []) parts ≡ true → POther (PInst whole) ∷ rest ≡ POther (PInst (made_inst parts)) ∷ drop 2 parts → IsInst text nodes at at_name at_terms whole
    go parts rest before h q =
        top_terms (is_token ∷ []) parts h (λ x0 r0 e0 h0.
        top_token ([]) r0 h0 (λ x1 r1 e1 h1.
        inst_end text nodes at at_name at_terms known_name known_terms whole parts rest x0 x1 r1 before (e0 ∙ ap (λ (ps : Parts). POther (PTerms x0) ∷ ps) e1) q))
