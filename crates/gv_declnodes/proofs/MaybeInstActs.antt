-- MaybeInst nodes by the acts that make them. Made by tools/script_nodes.py from script.grammar: edit that.
use Rattle.std.proofs.Common.{◌≡◌, ℕ, true, List, [], ◌∷◌, Option, Some, None, refl, ap, ◌∙◌}
use Rattle.std.specs.Prelude.{drop, take}
use Rattle.gv_grammar.specs.Building.{has_tops}
use Rattle.gv_termread.specs.declared.generated.term_acts.Part.TheVariants.{Token as PToken, Other as POther}
use Rattle.gv_scriptsyntax.specs.declared.generated.script_acts.ScriptPart.TheVariants.{Inst as PInst, MaybeInst as PMaybeInst}
use Rattle.gv_scriptsyntax.specs.declared.tree.Inst.{Inst}
use Rattle.gv_termread.specs.declared.token.SeenToken.{SeenToken}
use Rattle.gv_scriptsyntax.specs.declared.node.Node.{Node}
use Rattle.gv_scriptsyntax.specs.declared.node.Node.TheVariants.{Made}
use Rattle.gv_scriptsyntax.specs.declared.generated.script_table.TheConstants as act
use Rattle.gv_termread.specs.TermActs.{is_token}
use Rattle.gv_scriptsyntax.specs.ScriptActs.{is_inst, made_no_own, made_own}
use Rattle.gv_scriptsyntax.specs.Nodes.{Parts, built, IsPartAt}
use Rattle.gv_scriptnodes.specs.Places.{IsChild}
use Rattle.gv_scriptnodes.proofs.Opened.{opened}
use Rattle.gv_scriptnodes.proofs.Tops.{accepted, top_inst, top_token}
use Rattle.gv_certnodes.specs.Places.{IsMadeBy}
use Rattle.gv_declnodes.specs.MaybeInst.{IsOwn}
use Rattle.gv_certnodes.proofs.Opened.{at_part, same_act}

no_own_end : (text : List ℕ) (nodes : List Node) (at : ℕ)
    → (whole : Option Inst) (parts rest : Parts) (behind : Parts) → built text (take at nodes) ≡ Some parts → parts ≡ behind
    → POther (PMaybeInst whole) ∷ rest ≡ POther (PMaybeInst (made_no_own parts)) ∷ drop 0 parts → whole ≡ None
no_own_end text nodes at whole parts rest behind before shape q =
    let made : whole ≡ made_no_own parts = cc in
    made ∙ ap (λ (ps : Parts). made_no_own ps) shape

pub no_own_is : (text : List ℕ) (nodes : List Node) (at : ℕ) → IsMadeBy nodes at act.ACT_NO_OWN
    → (whole : Option Inst) → IsPartAt text nodes at (POther (PMaybeInst whole)) → whole ≡ None
no_own_is text nodes at by whole is =
    let o = opened text nodes at (Made by.raw by.from) (POther (PMaybeInst whole)) by.node is in
    let a = accepted text act.ACT_NO_OWN o.parts (POther (PMaybeInst whole) ∷ o.rest) (same_act text by.raw act.ACT_NO_OWN o.parts by.number ∙ o.done) in
    go o.parts o.rest o.before a.0 a.1
  where
    go : (parts rest : Parts) → built text (take at nodes) ≡ Some parts → has_tops ([]) parts ≡ true → POther (PMaybeInst whole) ∷ rest ≡ POther (PMaybeInst (made_no_own parts)) ∷ drop 0 parts → whole ≡ None
    go parts rest before h q =
        no_own_end text nodes at whole parts rest parts before refl q

own_end : (text : List ℕ) (nodes : List Node) (at : ℕ) (at_inst : ℕ) → IsChild text nodes at 0 at_inst
    → (whole : Option Inst) (parts rest : Parts) (inst : Inst) (passed_0 : SeenToken) (behind : Parts) → built text (take at nodes) ≡ Some parts → parts ≡ POther (PInst inst) ∷ PToken passed_0 ∷ behind
    → POther (PMaybeInst whole) ∷ rest ≡ POther (PMaybeInst (made_own parts)) ∷ drop 2 parts → IsOwn text nodes at at_inst whole
own_end text nodes at at_inst known_inst whole parts rest inst passed_0 behind before shape q =
    let made : whole ≡ made_own parts = cc in
    record {
      of_inst = inst;
      at_inst = at_part text nodes at 0 at_inst parts (PToken passed_0 ∷ behind) (POther (PInst inst)) known_inst before (ap (λ (ps : Parts). drop 0 ps) shape);
      made = made ∙ ap (λ (ps : Parts). made_own ps) shape;
    }

pub own_is : (text : List ℕ) (nodes : List Node) (at : ℕ) (at_inst : ℕ) → IsMadeBy nodes at act.ACT_OWN → IsChild text nodes at 0 at_inst
    → (whole : Option Inst) → IsPartAt text nodes at (POther (PMaybeInst whole)) → IsOwn text nodes at at_inst whole
own_is text nodes at at_inst by known_inst whole is =
    let o = opened text nodes at (Made by.raw by.from) (POther (PMaybeInst whole)) by.node is in
    let a = accepted text act.ACT_OWN o.parts (POther (PMaybeInst whole) ∷ o.rest) (same_act text by.raw act.ACT_OWN o.parts by.number ∙ o.done) in
    go o.parts o.rest o.before a.0 a.1
  where
    go : (parts rest : Parts) → built text (take at nodes) ≡ Some parts → has_tops (is_inst ∷ is_token ∷ []) parts ≡ true → POther (PMaybeInst whole) ∷ rest ≡ POther (PMaybeInst (made_own parts)) ∷ drop 2 parts → IsOwn text nodes at at_inst whole
    go parts rest before h q =
        top_inst (is_token ∷ []) parts h (λ x0 r0 e0 h0.
        top_token ([]) r0 h0 (λ x1 r1 e1 h1.
        own_end text nodes at at_inst known_inst whole parts rest x0 x1 r1 before (e0 ∙ ap (λ (ps : Parts). POther (PInst x0) ∷ ps) e1) q))
