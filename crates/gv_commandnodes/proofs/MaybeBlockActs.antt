-- MaybeBlock nodes by the acts that make them. Made by tools/script_nodes.py from script.grammar: edit that.
use Rattle.std.proofs.Common.{◌≡◌, ℕ, true, List, [], ◌∷◌, Option, Some, None, refl, ap, ◌∙◌}
use Rattle.std.specs.Prelude.{drop, take}
use Rattle.gv_grammar.specs.Building.{has_tops}
use Rattle.gv_termread.specs.declared.generated.term_acts.Part.TheVariants.{Token as PToken, Other as POther}
use Rattle.gv_scriptsyntax.specs.declared.generated.script_acts.ScriptPart.TheVariants.{Block as PBlock, MaybeBlock as PMaybeBlock}
use Rattle.gv_scriptsyntax.specs.declared.tree.Block.{Block}
use Rattle.gv_termread.specs.declared.token.SeenToken.{SeenToken}
use Rattle.gv_scriptsyntax.specs.declared.node.Node.{Node}
use Rattle.gv_scriptsyntax.specs.declared.node.Node.TheVariants.{Made}
use Rattle.gv_scriptsyntax.specs.declared.generated.script_table.TheConstants as act
use Rattle.gv_termread.specs.TermActs.{is_token}
use Rattle.gv_scriptsyntax.specs.ScriptActs.{is_block, made_during, made_no_during}
use Rattle.gv_scriptsyntax.specs.Nodes.{Parts, built, IsPartAt}
use Rattle.gv_scriptnodes.specs.Places.{IsChild}
use Rattle.gv_scriptnodes.proofs.Opened.{opened}
use Rattle.gv_scriptnodes.proofs.Tops.{accepted, top_block, top_token}
use Rattle.gv_certnodes.specs.Places.{IsMadeBy}
use Rattle.gv_commandnodes.specs.MaybeBlock.{IsDuring}
use Rattle.gv_certnodes.proofs.Opened.{at_part, same_act}

no_during_end : (text : List ℕ) (nodes : List Node) (at : ℕ)
    → (whole : Option Block) (parts rest : Parts) (behind : Parts) → built text (take at nodes) ≡ Some parts → parts ≡ behind
    → POther (PMaybeBlock whole) ∷ rest ≡ POther (PMaybeBlock (made_no_during parts)) ∷ drop 0 parts → whole ≡ None
no_during_end text nodes at whole parts rest behind before shape q =
    let made : whole ≡ made_no_during parts = cc in
    made ∙ ap (λ (ps : Parts). made_no_during ps) shape

pub no_during_is : (text : List ℕ) (nodes : List Node) (at : ℕ) → IsMadeBy nodes at act.ACT_NO_DURING
    → (whole : Option Block) → IsPartAt text nodes at (POther (PMaybeBlock whole)) → whole ≡ None
no_during_is text nodes at by whole is =
    let o = opened text nodes at (Made by.raw by.from) (POther (PMaybeBlock whole)) by.node is in
    let a = accepted text act.ACT_NO_DURING o.parts (POther (PMaybeBlock whole) ∷ o.rest) (same_act text by.raw act.ACT_NO_DURING o.parts by.number ∙ o.done) in
    go o.parts o.rest o.before a.0 a.1
  where
    go : (parts rest : Parts) → built text (take at nodes) ≡ Some parts → has_tops ([]) parts ≡ true → POther (PMaybeBlock whole) ∷ rest ≡ POther (PMaybeBlock (made_no_during parts)) ∷ drop 0 parts → whole ≡ None
    go parts rest before h q =
        no_during_end text nodes at whole parts rest parts before refl q

during_end : (text : List ℕ) (nodes : List Node) (at : ℕ) (at_block : ℕ) → IsChild text nodes at 0 at_block
    → (whole : Option Block) (parts rest : Parts) (block : Block) (passed_0 : SeenToken) (behind : Parts) → built text (take at nodes) ≡ Some parts → parts ≡ POther (PBlock block) ∷ PToken passed_0 ∷ behind
    → POther (PMaybeBlock whole) ∷ rest ≡ POther (PMaybeBlock (made_during parts)) ∷ drop 2 parts → IsDuring text nodes at at_block whole
during_end text nodes at at_block known_block whole parts rest block passed_0 behind before shape q =
    let made : whole ≡ made_during parts = cc in
    record {
      of_block = block;
      at_block = at_part text nodes at 0 at_block parts (PToken passed_0 ∷ behind) (POther (PBlock block)) known_block before (ap (λ (ps : Parts). drop 0 ps) shape);
      made = made ∙ ap (λ (ps : Parts). made_during ps) shape;
    }

pub during_is : (text : List ℕ) (nodes : List Node) (at : ℕ) (at_block : ℕ) → IsMadeBy nodes at act.ACT_DURING → IsChild text nodes at 0 at_block
    → (whole : Option Block) → IsPartAt text nodes at (POther (PMaybeBlock whole)) → IsDuring text nodes at at_block whole
during_is text nodes at at_block by known_block whole is =
    let o = opened text nodes at (Made by.raw by.from) (POther (PMaybeBlock whole)) by.node is in
    let a = accepted text act.ACT_DURING o.parts (POther (PMaybeBlock whole) ∷ o.rest) (same_act text by.raw act.ACT_DURING o.parts by.number ∙ o.done) in
    go o.parts o.rest o.before a.0 a.1
  where
    go : (parts rest : Parts) → built text (take at nodes) ≡ Some parts → has_tops (is_block ∷ is_token ∷ []) parts ≡ true → POther (PMaybeBlock whole) ∷ rest ≡ POther (PMaybeBlock (made_during parts)) ∷ drop 2 parts → IsDuring text nodes at at_block whole
    go parts rest before h q =
        top_block (is_token ∷ []) parts h (λ x0 r0 e0 h0.
        top_token ([]) r0 h0 (λ x1 r1 e1 h1.
        during_end text nodes at at_block known_block whole parts rest x0 x1 r1 before (e0 ∙ ap (λ (ps : Parts). POther (PBlock x0) ∷ ps) e1) q))
