-- Items nodes by the acts that make them. Made by tools/script_nodes.py from script.grammar: edit that.
use Rattle.std.proofs.Common.{◌≡◌, ℕ, true, List, [], ◌∷◌, Some, refl, ap, ◌∙◌}
use Rattle.std.specs.Prelude.{drop, take}
use Rattle.gv_grammar.specs.Building.{has_tops}
use Rattle.gv_termread.specs.declared.generated.term_acts.Part.TheVariants.{Token as PToken, Other as POther}
use Rattle.gv_scriptsyntax.specs.declared.generated.script_acts.ScriptPart.TheVariants.{Item as PItem, Items as PItems}
use Rattle.gv_scriptsyntax.specs.declared.tree.Item.{Item}
use Rattle.gv_termread.specs.declared.token.SeenToken.{SeenToken}
use Rattle.gv_scriptsyntax.specs.declared.node.Node.{Node}
use Rattle.gv_scriptsyntax.specs.declared.node.Node.TheVariants.{Made}
use Rattle.gv_scriptsyntax.specs.declared.generated.script_table.TheConstants as act
use Rattle.gv_termread.specs.TermActs.{is_token}
use Rattle.gv_scriptsyntax.specs.ScriptActs.{is_item, is_items, made_in_items, made_item, made_no_items}
use Rattle.gv_scriptsyntax.specs.Nodes.{Parts, built, IsPartAt}
use Rattle.gv_scriptnodes.specs.Places.{IsChild}
use Rattle.gv_scriptnodes.proofs.Opened.{opened}
use Rattle.gv_scriptnodes.proofs.Tops.{accepted, top_item, top_items, top_token}
use Rattle.gv_certnodes.specs.Places.{IsMadeBy}
use Rattle.gv_declnodes.specs.Items.{IsItem, IsInItems}
use Rattle.gv_certnodes.proofs.Opened.{at_part, same_act}

no_items_end : (text : List ℕ) (nodes : List Node) (at : ℕ)
    → (whole : List Item) (parts rest : Parts) (behind : Parts) → built text (take at nodes) ≡ Some parts → parts ≡ behind
    → POther (PItems whole) ∷ rest ≡ POther (PItems (made_no_items parts)) ∷ drop 0 parts → whole ≡ []
no_items_end text nodes at whole parts rest behind before shape q =
    let made : whole ≡ made_no_items parts = cc in
    made ∙ ap (λ (ps : Parts). made_no_items ps) shape

pub no_items_is : (text : List ℕ) (nodes : List Node) (at : ℕ) → IsMadeBy nodes at act.ACT_NO_ITEMS
    → (whole : List Item) → IsPartAt text nodes at (POther (PItems whole)) → whole ≡ []
no_items_is text nodes at by whole is =
    let o = opened text nodes at (Made by.raw by.from) (POther (PItems whole)) by.node is in
    let a = accepted text act.ACT_NO_ITEMS o.parts (POther (PItems whole) ∷ o.rest) (same_act text by.raw act.ACT_NO_ITEMS o.parts by.number ∙ o.done) in
    go o.parts o.rest o.before a.0 a.1
  where
    go : (parts rest : Parts) → built text (take at nodes) ≡ Some parts → has_tops ([]) parts ≡ true → POther (PItems whole) ∷ rest ≡ POther (PItems (made_no_items parts)) ∷ drop 0 parts → whole ≡ []
    go parts rest before h q =
        no_items_end text nodes at whole parts rest parts before refl q

item_end : (text : List ℕ) (nodes : List Node) (at : ℕ) (at_items : ℕ) (at_next : ℕ) → IsChild text nodes at 2 at_items → IsChild text nodes at 1 at_next
    → (whole : List Item) (parts rest : Parts) (passed_2 : SeenToken) (next : Item) (items : List Item) (behind : Parts) → built text (take at nodes) ≡ Some parts → parts ≡ PToken passed_2 ∷ POther (PItem next) ∷ POther (PItems items) ∷ behind
    → POther (PItems whole) ∷ rest ≡ POther (PItems (made_item parts)) ∷ drop 3 parts → IsItem text nodes at at_items at_next whole
item_end text nodes at at_items at_next known_items known_next whole parts rest passed_2 next items behind before shape q =
    let made : whole ≡ made_item parts = cc in
    record {
      of_items = items;
      of_next = next;
      at_items = at_part text nodes at 2 at_items parts (behind) (POther (PItems items)) known_items before (ap (λ (ps : Parts). drop 2 ps) shape);
      at_next = at_part text nodes at 1 at_next parts (POther (PItems items) ∷ behind) (POther (PItem next)) known_next before (ap (λ (ps : Parts). drop 1 ps) shape);
      made = made ∙ ap (λ (ps : Parts). made_item ps) shape;
    }

pub item_is : (text : List ℕ) (nodes : List Node) (at : ℕ) (at_items : ℕ) (at_next : ℕ) → IsMadeBy nodes at act.ACT_ITEM → IsChild text nodes at 2 at_items → IsChild text nodes at 1 at_next
    → (whole : List Item) → IsPartAt text nodes at (POther (PItems whole)) → IsItem text nodes at at_items at_next whole
item_is text nodes at at_items at_next by known_items known_next whole is =
    let o = opened text nodes at (Made by.raw by.from) (POther (PItems whole)) by.node is in
    let a = accepted text act.ACT_ITEM o.parts (POther (PItems whole) ∷ o.rest) (same_act text by.raw act.ACT_ITEM o.parts by.number ∙ o.done) in
    go o.parts o.rest o.before a.0 a.1
  where
    go : (parts rest : Parts) → built text (take at nodes) ≡ Some parts → has_tops (is_token ∷ is_item ∷ is_items ∷ []) parts ≡ true → POther (PItems whole) ∷ rest ≡ POther (PItems (made_item parts)) ∷ drop 3 parts → IsItem text nodes at at_items at_next whole
    go parts rest before h q =
        top_token (is_item ∷ is_items ∷ []) parts h (λ x0 r0 e0 h0.
        top_item (is_items ∷ []) r0 h0 (λ x1 r1 e1 h1.
        top_items ([]) r1 h1 (λ x2 r2 e2 h2.
        item_end text nodes at at_items at_next known_items known_next whole parts rest x0 x1 x2 r2 before (e0 ∙ ap (λ (ps : Parts). PToken x0 ∷ ps) (e1 ∙ ap (λ (ps : Parts). POther (PItem x1) ∷ ps) e2)) q)))

in_items_end : (text : List ℕ) (nodes : List Node) (at : ℕ) (at_items : ℕ) → IsChild text nodes at 1 at_items
    → (whole : List Item) (parts rest : Parts) (passed_2 : SeenToken) (items : List Item) (passed_0 : SeenToken) (behind : Parts) → built text (take at nodes) ≡ Some parts → parts ≡ PToken passed_2 ∷ POther (PItems items) ∷ PToken passed_0 ∷ behind
    → POther (PItems whole) ∷ rest ≡ POther (PItems (made_in_items parts)) ∷ drop 3 parts → IsInItems text nodes at at_items whole
in_items_end text nodes at at_items known_items whole parts rest passed_2 items passed_0 behind before shape q =
    let made : whole ≡ made_in_items parts = cc in
    record {
      of_items = items;
      at_items = at_part text nodes at 1 at_items parts (PToken passed_0 ∷ behind) (POther (PItems items)) known_items before (ap (λ (ps : Parts). drop 1 ps) shape);
      made = made ∙ ap (λ (ps : Parts). made_in_items ps) shape;
    }

pub in_items_is : (text : List ℕ) (nodes : List Node) (at : ℕ) (at_items : ℕ) → IsMadeBy nodes at act.ACT_IN_ITEMS → IsChild text nodes at 1 at_items
    → (whole : List Item) → IsPartAt text nodes at (POther (PItems whole)) → IsInItems text nodes at at_items whole
in_items_is text nodes at at_items by known_items whole is =
    let o = opened text nodes at (Made by.raw by.from) (POther (PItems whole)) by.node is in
    let a = accepted text act.ACT_IN_ITEMS o.parts (POther (PItems whole) ∷ o.rest) (same_act text by.raw act.ACT_IN_ITEMS o.parts by.number ∙ o.done) in
    go o.parts o.rest o.before a.0 a.1
  where
    go : (parts rest : Parts) → built text (take at nodes) ≡ Some parts → has_tops (is_token ∷ is_items ∷ is_token ∷ []) parts ≡ true → POther (PItems whole) ∷ rest ≡ POther (PItems (made_in_items parts)) ∷ drop 3 parts → IsInItems text nodes at at_items whole
    go parts rest before h q =
        top_token (is_items ∷ is_token ∷ []) parts h (λ x0 r0 e0 h0.
        top_items (is_token ∷ []) r0 h0 (λ x1 r1 e1 h1.
        top_token ([]) r1 h1 (λ x2 r2 e2 h2.
        in_items_end text nodes at at_items known_items whole parts rest x0 x1 x2 r2 before (e0 ∙ ap (λ (ps : Parts). PToken x0 ∷ ps) (e1 ∙ ap (λ (ps : Parts). POther (PItems x1) ∷ ps) e2)) q)))
