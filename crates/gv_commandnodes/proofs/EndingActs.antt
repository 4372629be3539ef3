-- Ending nodes by the acts that make them. Made by tools/script_nodes.py from script.grammar: edit that.
use Rattle.std.proofs.Common.{◌≡◌, ℕ, true, List, [], ◌∷◌, Option, Some, None, refl, sym, ap, ◌∙◌}
use Rattle.std.specs.Prelude.{drop, take}
use Rattle.gv_grammar.specs.Building.{has_tops}
use Rattle.gv_termread.specs.declared.generated.term_acts.Part.TheVariants.{Token as PToken, Other as POther}
use Rattle.gv_scriptsyntax.specs.declared.generated.script_acts.ScriptPart.TheVariants.{Ending as PEnding}
use Rattle.gv_termread.specs.declared.token.SeenToken.{SeenToken}
use Rattle.gv_scriptsyntax.specs.declared.node.Node.{Node}
use Rattle.gv_scriptsyntax.specs.declared.node.Node.TheVariants.{Made}
use Rattle.gv_scriptsyntax.specs.declared.generated.script_table.TheConstants as act
use Rattle.gv_termread.specs.TermActs.{is_token}
use Rattle.gv_scriptsyntax.specs.ScriptActs.{made_closed, made_not_closed}
use Rattle.gv_scriptsyntax.specs.Nodes.{Parts, built, IsPartAt}
use Rattle.gv_scriptnodes.specs.Places.{IsTokenOf}
use Rattle.gv_scriptnodes.proofs.Opened.{opened}
use Rattle.gv_scriptnodes.proofs.Tops.{accepted, top_token}
use Rattle.gv_certnodes.specs.Places.{IsMadeBy}
use Rattle.gv_certnodes.proofs.Opened.{same_act}

closed_end : (text : List ℕ) (nodes : List Node) (at : ℕ) (at_semi : SeenToken) → IsTokenOf text nodes at 0 at_semi
    → (whole : Option SeenToken) (parts rest : Parts) (semi : SeenToken) (behind : Parts) → built text (take at nodes) ≡ Some parts → parts ≡ PToken semi ∷ behind
    → POther (PEnding whole) ∷ rest ≡ POther (PEnding (made_closed parts)) ∷ drop 1 parts → whole ≡ (Some at_semi)
closed_end text nodes at at_semi known_semi whole parts rest semi behind before shape q =
    let made : whole ≡ made_closed parts = cc in
    made ∙ ap (λ (ps : Parts). made_closed ps) shape
    ∙ ap (λ (x : SeenToken). (Some x)) (sym (known_semi.same parts (behind) semi before (ap (λ (ps : Parts). drop 0 ps) shape)))

pub closed_is : (text : List ℕ) (nodes : List Node) (at : ℕ) (at_semi : SeenToken) → IsMadeBy nodes at act.ACT_CLOSED → IsTokenOf text nodes at 0 at_semi
    → (whole : Option SeenToken) → IsPartAt text nodes at (POther (PEnding whole)) → whole ≡ (Some at_semi)
closed_is text nodes at at_semi by known_semi whole is =
    let o = opened text nodes at (Made by.raw by.from) (POther (PEnding whole)) by.node is in
    let a = accepted text act.ACT_CLOSED o.parts (POther (PEnding whole) ∷ o.rest) (same_act text by.raw act.ACT_CLOSED o.parts by.number ∙ o.done) in
    go o.parts o.rest o.before a.0 a.1
  where
    go : (parts rest : Parts) → built text (take at nodes) ≡ Some parts → has_tops (is_token ∷ []) parts ≡ true → POther (PEnding whole) ∷ rest ≡ POther (PEnding (made_closed parts)) ∷ drop 1 parts → whole ≡ (Some at_semi)
    go parts rest before h q =
        top_token ([]) parts h (λ x0 r0 e0 h0.
        closed_end text nodes at at_semi known_semi whole parts rest x0 r0 before e0 q)

not_closed_end : (text : List ℕ) (nodes : List Node) (at : ℕ)
    → (whole : Option SeenToken) (parts rest : Parts) (behind : Parts) → built text (take at nodes) ≡ Some parts → parts ≡ behind
    → POther (PEnding whole) ∷ rest ≡ POther (PEnding (made_not_closed parts)) ∷ drop 0 parts → whole ≡ None
not_closed_end text nodes at whole parts rest behind before shape q =
    let made : whole ≡ made_not_closed parts = cc in
    made ∙ ap (λ (ps : Parts). made_not_closed ps) shape

pub not_closed_is : (text : List ℕ) (nodes : List Node) (at : ℕ) → IsMadeBy nodes at act.ACT_NOT_CLOSED
    → (whole : Option SeenToken) → IsPartAt text nodes at (POther (PEnding whole)) → whole ≡ None
not_closed_is text nodes at by whole is =
    let o = opened text nodes at (Made by.raw by.from) (POther (PEnding whole)) by.node is in
    let a = accepted text act.ACT_NOT_CLOSED o.parts (POther (PEnding whole) ∷ o.rest) (same_act text by.raw act.ACT_NOT_CLOSED o.parts by.number ∙ o.done) in
    go o.parts o.rest o.before a.0 a.1
  where
    go : (parts rest : Parts) → built text (take at nodes) ≡ Some parts → has_tops ([]) parts ≡ true → POther (PEnding whole) ∷ rest ≡ POther (PEnding (made_not_closed parts)) ∷ drop 0 parts → whole ≡ None
    go parts rest before h q =
        not_closed_end text nodes at whole parts rest parts before refl q
